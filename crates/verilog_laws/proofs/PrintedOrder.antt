-- The statements of a printed module are formed, and are in the order that is asked for.
use Rattle.std.proofs.Common.{◌≡◌, ℕ, ◌-◌, ◌≤◌, Bool, true, false, cond, List, [], ◌∷◌, ◌++◌, map, Some, None, refl, arith, append_assoc, eqb}
use Rattle.std.specs.Prelude.{codes, decimal}
use Rattle.std.specs.List.{list_all, AllByRecursion}
use Rattle.std.proofs.lemmas.Bool.{and_parts}
use Rattle.circuit.specs.Circuit.{Logic, Assignment, Register, Circuit}
use Rattle.circuit.specs.Names.{in_name, out_name}
use Rattle.circuit.specs.Valid.{IsInRange}
use Rattle.verilog_text.specs.Grammar.{Form, Header, Input, Output, Wire, Reg, End, Whole, Shifted, IsNext, IsExpression}
use Rattle.verilog_text.specs.Statements.{Start, Declarations, Actions}
use Rattle.verilog_laws.proofs.Printed.{printed, printed_register, printed_assign, printed_next, printed_always, printed_ports, printed_statements}
use Rattle.circuit.specs.Depth.{depth}
use Rattle.verilog_laws.proofs.PrintedDigits.{decimal_is}
use Rattle.verilog_laws.proofs.PrintedNames.{is_register, IsPrintable, register_is}
use Rattle.verilog_laws.proofs.PrintedExpressions.{is_expression}
use Rattle.verilog_laws.proofs.PrintedStatements.{Follow}

-- the statements of a module, one list after another
abbrev pub actions : Circuit → List Form
actions m = map (printed_assign m) m.assigns ++ (map (printed_always m) m.regs ++ (End ∷ []))

abbrev pub behind_header : Circuit → List Form
behind_header m = map Input (codes "clk" ∷ codes "rst" ∷ map in_name m.inputs) ++ (map Output (map out_name m.outputs) ++ (map Wire m.wires ++ (map printed_register m.regs ++ actions m)))

split_forms : (h : Form) (i o w r a l e : List Form) → (((h ∷ (((i ++ o) ++ w) ++ r)) ++ a) ++ l) ++ e ≡ h ∷ (i ++ (o ++ (w ++ (r ++ (a ++ (l ++ e))))))
split_forms h i o w r a l e = simp append_assoc

pub statements_split : (m : Circuit) → printed_statements m ≡ Header (codes "race") (printed_ports m) ∷ behind_header m
statements_split m =
    split_forms (Header (codes "race") (printed_ports m)) (map Input (codes "clk" ∷ codes "rst" ∷ map in_name m.inputs)) (map Output (map out_name m.outputs)) (map Wire m.wires) (map printed_register m.regs)
    (map (printed_assign m) m.assigns) (map (printed_always m) m.regs) (End ∷ [])

-- ---- declarations

inputs_follow : (ns : List (List ℕ)) (rest : List Form) → Follow Declarations rest → Follow Declarations (map Input ns ++ rest)
inputs_follow [] rest f = f
inputs_follow (n ∷ ns) rest f = (tt, refl, inputs_follow ns rest f)

outputs_follow : (ns : List (List ℕ)) (rest : List Form) → Follow Declarations rest → Follow Declarations (map Output ns ++ rest)
outputs_follow [] rest f = f
outputs_follow (n ∷ ns) rest f = (tt, refl, outputs_follow ns rest f)

wires_follow : (ns : List (List ℕ)) (rest : List Form) → Follow Declarations rest → Follow Declarations (map Wire ns ++ rest)
wires_follow [] rest f = f
wires_follow (n ∷ ns) rest f = (tt, refl, wires_follow ns rest f)

reg_follows : (b : Bool) (n : List ℕ) (k : ℕ) (rest : List Form) → k ≤ 1000000 → Follow Declarations rest → Follow Declarations (cond b (Reg None n) (Reg (Some (decimal k)) n) ∷ rest)
reg_follows true n k rest low f = (tt, refl, f)
reg_follows false n k rest low f = ((decimal_is k low).plain, refl, f)

regs_follow : (rs : List Register) (rest : List Form) → list_all is_register rs ≡ true → Follow Declarations rest → Follow Declarations (map printed_register rs ++ rest)
regs_follow [] rest h f = f
regs_follow (r ∷ rs) rest h f =
    let a = and_parts (is_register r) (list_all is_register rs) h in
    let few = (register_is r a.0).few in
    reg_follows (eqb r.width 1) r.name (r.width - 1) (map printed_register rs ++ rest) (omega (arith, few)) (regs_follow rs rest a.1 f)

-- ---- assigns and always statements

-- what may follow both a declaration and an assign or always statement
abbrev Acts : List Form → Type 0
Acts rest = Follow Declarations rest × Follow Actions rest

-- what it names is the module's, and it isn't deep
abbrev pub IsWritable : Circuit → Logic → Type 0
IsWritable m x = IsInRange m x × (depth x ≤ 64)

assigns_act : (m : Circuit) → IsPrintable m → (as_ : List Assignment) (rest : List Form) → AllByRecursion (λ (a : Assignment). IsWritable m a.bit) as_ → Acts rest → Acts (map (printed_assign m) as_ ++ rest)
assigns_act m p [] rest h f = f
assigns_act m p (a ∷ as_) rest h f =
    let formed = is_expression m p a.bit h.0.0 h.0.1 in
    let more = assigns_act m p as_ rest h.1 f in
    ((formed, refl, more.1), (formed, refl, more.1))

next_is : (m : Circuit) (b : Bool) (n : List ℕ) (k : ℕ) (x : Logic) → k ≤ 1000000 → IsExpression (printed m x) → IsNext (cond b (Whole (printed m x)) (Shifted n (decimal k) (printed m x)))
next_is m true n k x low e = e
next_is m false n k x low e = ((decimal_is k low).plain, e)

always_act : (m : Circuit) → IsPrintable m → (rs : List Register) (rest : List Form) → list_all is_register rs ≡ true → AllByRecursion (λ (r : Register). IsWritable m r.next) rs → Acts rest → Acts (map (printed_always m) rs ++ rest)
always_act m p [] rest g h f = f
always_act m p (r ∷ rs) rest g h f =
    let a = and_parts (is_register r) (list_all is_register rs) g in
    let few = (register_is r a.0).few in
    let formed : IsNext (printed_next m r) = next_is m (eqb r.width 1) r.name (r.width - 2) r.next (omega (arith, few)) (is_expression m p r.next h.0.0 h.0.1) in
    let more = always_act m p rs rest a.1 h.1 f in
    ((formed, refl, more.1), (formed, refl, more.1))

-- ---- all statements

pub all_follow : (m : Circuit) → IsPrintable m → AllByRecursion (λ (a : Assignment). IsWritable m a.bit) m.assigns → AllByRecursion (λ (r : Register). IsWritable m r.next) m.regs
    → Follow Start (Header (codes "race") (printed_ports m) ∷ behind_header m)
all_follow m p as_ rs =
    let end : Acts (End ∷ []) = ((tt, refl, refl), (tt, refl, refl)) in
    let acts = assigns_act m p m.assigns (map (printed_always m) m.regs ++ (End ∷ [])) as_ (always_act m p m.regs (End ∷ []) p.regs rs end) in
    let regs = regs_follow m.regs (actions m) p.regs acts.0 in
    let wires = wires_follow m.wires (map printed_register m.regs ++ actions m) regs in
    let outputs = outputs_follow (map out_name m.outputs) (map Wire m.wires ++ (map printed_register m.regs ++ actions m)) wires in
    let inputs = inputs_follow (codes "clk" ∷ codes "rst" ∷ map in_name m.inputs) (map Output (map out_name m.outputs) ++ (map Wire m.wires ++ (map printed_register m.regs ++ actions m))) outputs in
    ((λ e. absurd cc), refl, inputs)
