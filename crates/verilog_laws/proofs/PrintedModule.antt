-- The text of a module spells it.
use Rattle.std.proofs.Common.{◌≡◌, ℕ, zero, suc, ◌≤◌, List, [], ◌∷◌, ◌++◌, map, Some, refl, ap, subst, ◌∙◌, All}
use Rattle.std.specs.Prelude.{codes, slice_get}
use Rattle.std.specs.List.{AllByRecursion}
use Rattle.std.proofs.lemmas.Option.{slice_get_within, get_or_from_slice_get}
use Rattle.rl_text.specs.Lexemes.{lexemes}
use Rattle.circuit.specs.Circuit.{Assignment, Register, Circuit}
use Rattle.circuit.specs.Names.{out_name, declared_names}
use Rattle.verilog_text.specs.Text.{module_text}
use Rattle.circuit.specs.Valid.{IsInRange, IsValid}
use Rattle.verilog_text.specs.Grammar.{Header, Output, Wire}
use Rattle.verilog_text.specs.Statements.{Start}
use Rattle.verilog_text.specs.Judging.{SoFar, nothing_yet}
use Rattle.verilog_text.specs.Spelling.{SpellsModule}
use Rattle.verilog_laws.proofs.Printed.{printed_register, printed_ports, printed_statements}
use Rattle.circuit.specs.Depth.{depth, IsShallow}
use Rattle.verilog_laws.proofs.PrintedPieces.{FrontIsLongest, has_words}
use Rattle.verilog_laws.proofs.PrintedNames.{is_register, passes_at, printable}
use Rattle.verilog_laws.proofs.PrintedWords.{words_on, HasParts, HasNext, reads_module}
use Rattle.verilog_laws.proofs.PrintedStatements.{AllKeep, makes, all_stand}
use Rattle.verilog_laws.proofs.PrintedEntries.{distinct_from_pairs, scope}
use Rattle.verilog_laws.proofs.PrintedOrder.{actions, behind_header, statements_split, IsWritable, all_follow}
use Rattle.verilog_laws.proofs.PrintedDeclarations.{inputs_keep, outputs_keep, wires_keep, regs_keep, header_keeps}
use Rattle.verilog_laws.proofs.PrintedActions.{taken, acting, actions_keep, is_module}

each : {X : Type 0} (P : X → Type 0) (xs : List X) → All P xs → (k : ℕ) (x : X) → slice_get xs k ≡ Some x → P x
each P xs h k x e = subst P (get_or_from_slice_get xs k x x e) (h k x (slice_get_within xs k x e))

by_recursion : {X : Type 0} (P : X → Type 0) (xs : List X) → ((k : ℕ) (x : X) → slice_get xs k ≡ Some x → P x) → AllByRecursion P xs
by_recursion P [] h = tt
by_recursion P (x ∷ xs) h = (h zero x refl, by_recursion P xs (λ k y e. h (suc k) y e))

-- what the statements of a module are
abbrev whole : Circuit → SoFar
whole m = acting m m.assigns (map taken m.regs)

all_keep : (m : Circuit) → IsValid m → AllKeep nothing_yet (Header (codes "race") (printed_ports m) ∷ behind_header m) (whole m)
all_keep m v =
    let p = printable m v in
    let d = distinct_from_pairs (declared_names m) v.names.distinct in
    let s = scope m v.names.distinct in
    let last = whole m in
    let ranges = by_recursion (λ (a : Assignment). IsInRange m a.bit) m.assigns (each (λ a. IsInRange m a.bit) m.assigns v.assigned_in_range) in
    let nexts = by_recursion (λ (r : Register). IsInRange m r.next) m.regs (each (λ r. IsInRange m r.next) m.regs v.next_in_range) in
    let acts = actions_keep m p s v.ordered ranges nexts in
    let regs = regs_keep m d [] m.regs (actions m) last refl v.few_bits p.regs acts in
    let wires = wires_keep m d [] m.wires (map printed_register m.regs ++ actions m) last refl v.few_wires p.wires regs in
    let outputs = outputs_keep m d [] m.outputs (map Wire m.wires ++ (map printed_register m.regs ++ actions m)) last refl p.outputs wires in
    let inputs = inputs_keep m d [] m.inputs (map Output (map out_name m.outputs) ++ (map Wire m.wires ++ (map printed_register m.regs ++ actions m))) last refl p.inputs outputs in
    (header_keeps m v p.inputs p.outputs, (refl, (refl, inputs)))

pub printed : FrontIsLongest → (m : Circuit) → IsValid m → IsShallow m → SpellsModule (module_text m) m
printed front_is_longest m v shallow =
    let text = module_text m in
    let p = printable m v in
    let assigned = each (λ a. IsInRange m a.bit) m.assigns v.assigned_in_range in
    let next = each (λ r. IsInRange m r.next) m.regs v.next_in_range in
    let parts = by_recursion (HasParts m) m.assigns (λ k a e. (v.ordered.targets k a e, assigned k a e)) in
    let nexts = by_recursion (HasNext m) m.regs (λ k r e. (passes_at is_register m.regs k r p.regs e, next k r e)) in
    let low_assigns = by_recursion (λ (a : Assignment). IsWritable m a.bit) m.assigns (λ k a e. (assigned k a e, each (λ b. depth b.bit ≤ 64) m.assigns shallow.assigns k a e)) in
    let low_regs = by_recursion (λ (r : Register). IsWritable m r.next) m.regs (λ k r e. (next k r e, each (λ s. depth s.next ≤ 64) m.regs shallow.regs k r e)) in
    let w = has_words front_is_longest text (words_on (printed_statements m)) (reads_module m p parts nexts) in
    let forms = Header (codes "race") (printed_ports m) ∷ behind_header m in
    let made = makes Start forms (lexemes text w.tokens) (all_follow m p low_assigns low_regs) (w.words ∙ ap words_on (statements_split m)) in
    record {
      tokens = w.tokens;
      lexed = w.lexed;
      statements = made.statements;
      are = made.leads;
      stand = (whole m, all_stand nothing_yet (whole m) forms made.statements made.forms (all_keep m v), is_module m);
    }
