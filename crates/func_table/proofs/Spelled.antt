-- What a text spells keeps the rules of tables.
use Rattle.std.proofs.Common.{◌≡◌, ℕ, Bool, true, false, cond, List, [], ◌∷◌, None, Some, refl, sym, subst}
use Rattle.rl_text.specs.Lines.{Line, lines}
use Rattle.line_lang.specs.Spelling.{AllFit}
use Rattle.func_table.specs.declared.reader.rules.Rule.TheVariants as rule
use Rattle.func_table.specs.declared.reader.rules.Stage.{Stage}
use Rattle.func_table.specs.declared.reader.rules.Stage.TheVariants as stage
use Rattle.func_table.specs.Table.{Table}
use Rattle.func_table.specs.Rules.{IsTable}
use Rattle.func_table.specs.Forms.{Form, Header, Inputs, Output, Entries, IsFormed}
use Rattle.func_table.specs.LineRules.{SoFar, nothing_yet, after, breaks_count}
use Rattle.func_table.specs.Spelling.{tables, may_end, SpellsTable}
use Rattle.func_table.specs.Draft.{IsPart}
use Rattle.func_table.proofs.Parts.{HasInputs, part_after}

has_inputs : (f : Form) → IsFormed f → HasInputs f
has_inputs Header w = tt
has_inputs (Inputs names) w = w
has_inputs (Output n) w = tt
has_inputs (Entries es out) w = tt

no_rule : (b : Bool) → cond b (Some rule.Count) None ≡ None → b ≡ false
no_rule false e = refl
no_rule true e = absurd cc

all_parts : (s last : SoFar) (ls : List Line) → IsPart s.stage s.table → AllFit tables s ls last → IsPart last.stage last.table
all_parts s last [] p a = subst (λ (x : SoFar). IsPart x.stage x.table) a p
all_parts s last (l ∷ ls) p a =
    all_parts (after s a.0) last ls (part_after s.stage s.table a.0 p (has_inputs a.0 a.1.line.formed) a.1.allowed (no_rule (breaks_count s.table a.0) a.1.keeps)) a.2

at_end : (s : Stage) (t : Table) → may_end s ≡ true → IsPart s t → IsTable t
at_end stage.Start t e p = absurd cc
at_end stage.Header t e p = absurd cc
at_end stage.Inputs t e p = absurd cc
at_end stage.Rows t e p = p

pub spelled : (text : List ℕ) (t : Table) → SpellsTable text t → IsTable t
spelled text t s = subst IsTable (sym s.is) (at_end s.last.stage s.last.table s.ends (all_parts nothing_yet s.last (lines text s.tokens) refl s.fit))
