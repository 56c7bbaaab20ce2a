-- Which text spells which module, and which rule a text that spells none breaks first.
use Rattle.std.specs.Prelude.{◌≡◌, ℕ, List, [], ◌∷◌, take, Some, None, ◌⊎◌}
use Rattle.rl_text.specs.declared.token.Token.{Token}
use Rattle.rl_text.specs.declared.token.Style.TheVariants as style
use Rattle.rl_text.specs.Tokens.{line_behind, AreTokens, IsBad}
use Rattle.rl_text.specs.Lexemes.{lexemes}
use Rattle.verilog_text.specs.declared.rule.Rule.{Rule}
use Rattle.verilog_text.specs.declared.rule.Rule.TheVariants as rule
use Rattle.circuit.specs.Circuit.{Circuit}
use Rattle.verilog_text.specs.Statements.{Statement, AreStatements, FailsAt}
use Rattle.verilog_text.specs.Judging.{SoFar, nothing_yet, after, first_rule, module_of}

-- each of the statements breaks no rule after those before it, and all together are `last`
abbrev pub AllStand : SoFar → List Statement → SoFar → Type 0
AllStand x [] last = x ≡ last
AllStand x (s ∷ ss) last = (first_rule x s.form ≡ None) × AllStand (after x s.form) ss last

-- the rule that the statements break first, and the line of the one that breaks it
abbrev pub FirstBroken : SoFar → List Statement → Rule → ℕ → Type 0
FirstBroken x [] r line = ⊥
FirstBroken x (s ∷ ss) r line =
    ((first_rule x s.form ≡ Some r) × (line ≡ s.line)) ⊎ ((first_rule x s.form ≡ None) × FirstBroken (after x s.form) ss r line)

-- the statements are this module
abbrev pub AreModule : List Statement → Circuit → Type 0
AreModule ss m = (last : SoFar) × AllStand nothing_yet ss last × (m ≡ module_of last)

-- the text spells the module: its words are statements, which keep all rules and are this module
pub record SpellsModule (text : List ℕ) (m : Circuit) : Type 0 where
  pub tokens : List Token
  pub lexed : AreTokens style.Verilog text tokens
  pub statements : List Statement
  pub are : AreStatements (lexemes text tokens) statements
  pub stand : AreModule statements m

-- a byte of the text is bad, on this line
pub record HasBadByte (text : List ℕ) (line : ℕ) : Type 0 where
  pub place : ℕ
  pub bad : IsBad style.Verilog text place
  pub number : line ≡ line_behind (take place text)

-- the text has tokens, and at the first place where no permitted statement begins, this is the line
pub record LacksStatement (text : List ℕ) (line : ℕ) : Type 0 where
  pub tokens : List Token
  pub lexed : AreTokens style.Verilog text tokens
  pub fails : FailsAt (lexemes text tokens) (line_behind text) line

-- the text's words are statements, and this rule is broken first, on this line
pub record BreaksFirst (text : List ℕ) (r : Rule) (line : ℕ) : Type 0 where
  pub tokens : List Token
  pub lexed : AreTokens style.Verilog text tokens
  pub statements : List Statement
  pub are : AreStatements (lexemes text tokens) statements
  pub first : FirstBroken nothing_yet statements r line

-- the text spells no module, since it breaks this rule first, on this line
abbrev pub IsBroken : List ℕ → Rule → ℕ → Type 0
IsBroken text rule.Syntax line = HasBadByte text line ⊎ LacksStatement text line
IsBroken text rule.Name line = BreaksFirst text rule.Name line
IsBroken text rule.Order line = BreaksFirst text rule.Order line
IsBroken text rule.Width line = BreaksFirst text rule.Width line
IsBroken text rule.Limit line = BreaksFirst text rule.Limit line
