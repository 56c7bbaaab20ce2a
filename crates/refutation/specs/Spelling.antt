-- Which text spells which trees, and which rule a text that spells none breaks first.
use Rattle.std.specs.Prelude.{ℕ, Bool, true, false, List}
use Rattle.line_lang.specs.Language.{Language}
use Rattle.line_lang.specs.Spelling.{Spells, IsBroken}
use Rattle.refutation.specs.declared.tree.NamedTree.{NamedTree}
use Rattle.refutation.specs.declared.reader.rules.Rule.{Rule}
use Rattle.refutation.specs.declared.reader.rules.Rule.TheVariants as rule
use Rattle.refutation.specs.declared.reader.rules.Stage.{Stage}
use Rattle.refutation.specs.declared.reader.rules.Stage.TheVariants as stage
use Rattle.refutation.specs.Forms.{Form, IsLine}
use Rattle.refutation.specs.LineRules.{SoFar, nothing_yet, allows, after, first_rule}

-- a text may end after a tree
abbrev pub may_end : Stage → Bool
may_end stage.Ended = true
may_end _ = false

-- the language of trees: its lines, the rules that they keep, and the trees that they are together
abbrev pub trees : Language SoFar Form Rule (List NamedTree)
trees = record {
  IsLine = IsLine;
  start = nothing_yet;
  allows = λ before f. allows before.stage f;
  first_rule = first_rule;
  after = after;
  may_end = λ last. may_end last.stage;
  value = λ last. last.trees;
  syntax = rule.Syntax;
}

abbrev pub SpellsTrees : List ℕ → List NamedTree → Type 0
SpellsTrees text all = Spells trees text all

abbrev pub IsBrokenText : List ℕ → Rule → ℕ → Type 0
IsBrokenText text r n = IsBroken trees text r n
