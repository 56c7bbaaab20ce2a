-- A text spells a module or breaks a rule first; and what it spells is valid.
use Rattle.std.proofs.Common.{◌≡◌, ◌≢◌, ℕ, zero, suc, ◌<◌, Bool, true, false, List, [], ◌∷◌, ◌++◌, length, Option, Some, None, refl, sym, ap, ◌∙◌, arith, inl, inr, ◌⊎◌, length-append}
use Rattle.std.specs.Prelude.{take}
use Rattle.rl_text.specs.declared.token.Token.{Token}
use Rattle.rl_text.specs.declared.token.Style.TheVariants as style
use Rattle.rl_text.specs.Tokens.{line_behind, AreTokens, IsBad}
use Rattle.rl_text.specs.Cursor.{HasTokens}
use Rattle.rl_text.specs.Lexemes.{Lexeme, lexemes}
use Rattle.circuit.specs.Circuit.{Circuit}
use Rattle.circuit.specs.Valid.{IsValid}
use Rattle.verilog_text.specs.declared.rule.Rule.{Rule}
use Rattle.verilog_text.specs.declared.rule.Rule.TheVariants as rule
use Rattle.verilog_text.specs.Grammar.{Form, Header, Input, Output, Wire, Reg, Assign, Always, End}
use Rattle.verilog_text.specs.Statements.{Statement, Stage, Start, Declarations, Actions, Finished, stage_after, MayPrecede, Opens, Leads, AreInOrder, AreStatements, first_line}
use Rattle.verilog_text.specs.Reading.{statement_at}
use Rattle.verilog_text.specs.Judging.{SoFar, nothing_yet, after, first_of, first_rule, breaks_name, breaks_order, breaks_width, breaks_limit, module_of}
use Rattle.verilog_text.specs.Spelling.{AllStand, FirstBroken, AreModule, SpellsModule, BreaksFirst, IsBroken}
use Rattle.verilog_laws.specs.Answers.{HasAnswer}
use Rattle.verilog_laws.proofs.Parts.{statements_valid}

-- ---- what is spelled is valid

in_order : (k : Stage) (ls : List Lexeme) (ss : List Statement) (rest : List Lexeme) → Leads k ls ss Finished rest → AreInOrder k ss
in_order k ls [] rest x = x.0
in_order k ls (s ∷ ss) rest x = (x.1.allowed, in_order (stage_after s.form) x.0 ss rest x.2)

pub words_valid : (words : List Lexeme) (ss : List Statement) (m : Circuit) → AreStatements words ss → AreModule ss m → IsValid m
words_valid words ss m are is = statements_valid ss m (in_order Start words ss [] are) is

pub spelled_valid : (text : List ℕ) (m : Circuit) → SpellsModule text m → IsValid m
spelled_valid text m x = words_valid (lexemes text x.tokens) x.statements m x.are x.stand

-- ---- words are statements, or there is a first place at which none is

-- what is known of reading
abbrev pub Opened : Type 0
Opened = (stage : Stage) (ls : List Lexeme) (s : Statement) (rest : List Lexeme) → statement_at stage ls ≡ Some (s, rest) → Opens stage ls s rest

abbrev pub ReadAgain : Type 0
ReadAgain = (stage : Stage) (ls : List Lexeme) (s : Statement) (rest : List Lexeme) → Opens stage ls s rest → statement_at stage ls ≡ Some (s, rest)

record Stops (k : Stage) (ls : List Lexeme) : Type 0 where
  before : List Statement
  stage : Stage
  rest : List Lexeme
  leads : Leads k ls before stage rest
  unfinished : stage ≢ Finished
  nothing : (s : Statement) (after : List Lexeme) → Opens stage rest s after → ⊥

abbrev Parsed : Stage → List Lexeme → Type 0
Parsed k ls = ((ss : List Statement) × Leads k ls ss Finished []) ⊎ Stops k ls

ended : (f : Form) (rest : List Lexeme) → MayPrecede f rest → stage_after f ≡ Finished → rest ≡ []
ended (Header n ports) rest m e = absurd cc
ended (Input n) rest m e = absurd cc
ended (Output n) rest m e = absurd cc
ended (Wire n) rest m e = absurd cc
ended (Reg m n) rest w e = absurd cc
ended (Assign n a) rest m e = absurd cc
ended (Always r z s n) rest m e = absurd cc
ended End rest m e = m

shorter : (k : Stage) (ls : List Lexeme) (s : Statement) (rest : List Lexeme) → Opens k ls s rest → length rest < length ls
shorter k ls s rest o =
    let e : length ls ≡ suc (length (o.others ++ rest)) = ap length o.split in
    omega (arith, e, length-append o.others rest)

one_more : (k : Stage) (ls : List Lexeme) (s : Statement) (rest : List Lexeme) → Opens k ls s rest → Parsed (stage_after s.form) rest → Parsed k ls
one_more k ls s rest o (inl p) = inl (s ∷ p.0, (rest, o, p.1))
one_more k ls s rest o (inr p) = inr (record { before = s ∷ p.before; stage = p.stage; rest = p.rest; leads = (rest, o, p.leads); unfinished = p.unfinished; nothing = p.nothing })

module _ (opened : Opened) (again : ReadAgain) where
  -- at a stage that isn't the last, where shorter words are known to end
  turn : (k : Stage) (ls : List Lexeme) → ((j : Stage) (rest : List Lexeme) → length rest < length ls → (j ≡ Finished → rest ≡ []) → Parsed j rest) → k ≢ Finished →
      (o : Option (Statement × List Lexeme)) → statement_at k ls ≡ o → Parsed k ls
  turn k ls next u None e = inr (record { before = []; stage = k; rest = ls; leads = (refl, refl); unfinished = u; nothing = λ s rest o. let f : None ≡ Some (s, rest) = sym e ∙ again k ls s rest o in cc })
  turn k ls next u (Some (s, rest)) e =
      let o = opened k ls s rest e in
      one_more k ls s rest o (next (stage_after s.form) rest (shorter k ls s rest o) (ended s.form rest o.whole))

  parsed : (fuel : ℕ) (k : Stage) (ls : List Lexeme) → length ls < fuel → (k ≡ Finished → ls ≡ []) → Parsed k ls
  parsed zero k ls lt f = absurd (omega (arith, lt))
  parsed (suc fuel) Start ls lt f = turn Start ls (λ j rest less g. parsed fuel j rest (omega (arith, less, lt)) g) (λ e. cc) (statement_at Start ls) refl
  parsed (suc fuel) Declarations ls lt f = turn Declarations ls (λ j rest less g. parsed fuel j rest (omega (arith, less, lt)) g) (λ e. cc) (statement_at Declarations ls) refl
  parsed (suc fuel) Actions ls lt f = turn Actions ls (λ j rest less g. parsed fuel j rest (omega (arith, less, lt)) g) (λ e. cc) (statement_at Actions ls) refl
  parsed (suc fuel) Finished ls lt f = inl ([], (refl, f refl))

  -- ---- statements hold, or one breaks a rule first

  judged : (x : SoFar) (ss : List Statement) → ((last : SoFar) × AllStand x ss last) ⊎ ((r : Rule) × (line : ℕ) × FirstBroken x ss r line)
  judged x [] = inl (x, refl)
  judged x (s ∷ ss) = step (first_rule x s.form) refl (judged (after x s.form) ss) where
    step : (o : Option Rule) → first_rule x s.form ≡ o → ((last : SoFar) × AllStand (after x s.form) ss last) ⊎ ((r : Rule) × (line : ℕ) × FirstBroken (after x s.form) ss r line) →
        ((last : SoFar) × AllStand x (s ∷ ss) last) ⊎ ((r : Rule) × (line : ℕ) × FirstBroken x (s ∷ ss) r line)
    step (Some r) e p = inr (r, s.line, inl (e, refl))
    step None e (inl p) = inl (p.0, (e, p.1))
    step None e (inr p) = inr (p.0, p.1, inr (e, p.2))

  no_syntax : (a b c d : Bool) → first_of a b c d ≡ Some rule.Syntax → ⊥
  no_syntax true b c d e = cc
  no_syntax false true c d e = cc
  no_syntax false false true d e = cc
  no_syntax false false false true e = cc
  no_syntax false false false false e = cc

  broken_other : (x : SoFar) (ss : List Statement) (line : ℕ) → FirstBroken x ss rule.Syntax line → ⊥
  broken_other x [] line b = b
  broken_other x (s ∷ ss) line (inl b) = no_syntax (breaks_name x s.form) (breaks_order x s.form) (breaks_width x s.form) (breaks_limit x s.form) b.0
  broken_other x (s ∷ ss) line (inr b) = broken_other (after x s.form) ss line b.1

  named : (text : List ℕ) (r : Rule) (line : ℕ) → BreaksFirst text r line → IsBroken text r line
  named text rule.Syntax line b = absurd (broken_other nothing_yet b.statements line b.first)
  named text rule.Name line b = b
  named text rule.Order line b = b
  named text rule.Width line b = b
  named text rule.Limit line b = b

  -- ---- the answer

  answered : (text : List ℕ) (tokens : List Token) → AreTokens style.Verilog text tokens → Parsed Start (lexemes text tokens) → HasAnswer text
  answered text tokens lexed (inr p) = inr (
    rule.Syntax,
    first_line (line_behind text) p.rest,
    inr (record {
      tokens = tokens;
      lexed = lexed;
      fails = record { before = p.before; stage = p.stage; rest = p.rest; leads = p.leads; unfinished = p.unfinished; nothing = p.nothing; is = refl };
    }),
  )
  answered text tokens lexed (inl p) = elim (judged nothing_yet p.0) [
    | inl j ↦ inl (module_of j.0, record { tokens = tokens; lexed = lexed; statements = p.0; are = p.1; stand = (j.0, j.1, refl) })
    | inr j ↦ inr (j.0, j.1, named text j.0 j.1 (record { tokens = tokens; lexed = lexed; statements = p.0; are = p.1; first = j.2 }))
  ]

  pub has_answer : (text : List ℕ) → HasTokens style.Verilog text ⊎ ((p : ℕ) × IsBad style.Verilog text p) → HasAnswer text
  has_answer text (inl t) =
      answered text t.tokens t.lexed (parsed (suc (length (lexemes text t.tokens))) Start (lexemes text t.tokens) (omega arith) (λ e. cc))
  has_answer text (inr b) = inr (rule.Syntax, line_behind (take b.0 text), inl (record { place = b.0; bad = b.1; number = refl }))
