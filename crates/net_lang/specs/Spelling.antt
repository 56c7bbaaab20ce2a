-- Which text spells which network, and which rule a text that spells none breaks first.
use Rattle.std.specs.Prelude.{ℕ, Bool, true, false, List}
use Rattle.line_lang.specs.Language.{Language}
use Rattle.line_lang.specs.Spelling.{Spells, IsBroken}
use Rattle.net_lang.specs.declared.reader.rules.Rule.{Rule}
use Rattle.net_lang.specs.declared.reader.rules.Rule.TheVariants as rule
use Rattle.net_lang.specs.declared.reader.rules.Stage.{Stage}
use Rattle.net_lang.specs.declared.reader.rules.Stage.TheVariants as stage
use Rattle.net_model.specs.Formula.{Net}
use Rattle.net_lang.specs.Forms.{Form, IsLine}
use Rattle.net_lang.specs.LineRules.{SoFar, nothing_yet, allows, after, first_rule}

-- a text may end after an output
abbrev pub may_end : Stage → Bool
may_end stage.Outputs = true
may_end _ = false

-- the language of networks: its lines, the rules that they keep, and the network that they are together
abbrev pub networks : Language SoFar Form Rule Net
networks = record {
  IsLine = IsLine;
  start = nothing_yet;
  allows = λ before f. allows before.stage f;
  first_rule = λ before f. first_rule before.net f;
  after = after;
  may_end = λ last. may_end last.stage;
  value = λ last. last.net;
  syntax = rule.Syntax;
}

abbrev pub SpellsNetwork : List ℕ → Net → Type 0
SpellsNetwork text n = Spells networks text n

abbrev pub IsBrokenNetwork : List ℕ → Rule → ℕ → Type 0
IsBrokenNetwork text r n = IsBroken networks text r n
