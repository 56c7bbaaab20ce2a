-- The text of a module of gates has at most 16,777,216 bytes: each line has a bound of its kind, and there are few of a kind.
use Rattle.std.proofs.Common.{◌≡◌, ℕ, zero, suc, ◌+◌, ◌-◌, ◌*◌, ◌<◌, ◌≤◌, Bool, true, false, List, [], ◌∷◌, ◌++◌, length, get_or, refl, sym, subst, inl, inr, arith, Some, All, IsTrue, codes, decimal, length-append}
use Rattle.std.specs.Prelude.{slice_get, flat_map, if◌then◌else◌, ◌==◌, nat_le}
use Rattle.std.proofs.lemmas.Bool.{cases_lt, and_parts, leb-true}
use Rattle.std.proofs.lemmas.Fmt.{length-decimal-le}
use Rattle.std.proofs.lemmas.List.{length-map}
use Rattle.std.proofs.lemmas.List.Concat.{length-flat_map}
use Rattle.std.proofs.lemmas.List.Elements.{All-append, All-nil, All-cons}
use Rattle.std.proofs.lemmas.List.Sums.{sum_by-le}
use Rattle.std.proofs.lemmas.Option.{slice_get_past, slice_get-get_or}
use Rattle.circuit.specs.declared.bit.Target.{Target}
use Rattle.circuit.specs.declared.bit.Target.TheVariants as target
use Rattle.circuit.specs.Circuit.{Reg, Wire, Not, And, Circuit, Assignment, Register}
use Rattle.circuit.specs.Depth.{is_compound}
use Rattle.circuit.specs.Names.{is_port_name, numbered_name, numbered}
use Rattle.verilog_text.specs.Text.{name_text, bit_text, register_bit_text, in_parentheses, logic_text, operand_text, target_text, around, header_start, input_ports, output_ports, header_text, clock_lines, input_lines, output_lines, wire_lines, register_line, declarations_text, assign_line, next_text, always_start, reset_text, update_text, always_line, statements_text, module_text}
use Rattle.gate_lower.specs.declared.gates.Line.{Line}
use Rattle.gate_lower.specs.declared.gates.Line.TheVariants as line
use Rattle.gate_lower.specs.declared.gates.Gate.{Gate}
use Rattle.gate_lower.specs.declared.gates.Gate.TheVariants as gate
use Rattle.gate_lower.specs.declared.gates.Delay.{Delay}
use Rattle.gate_lower.specs.Netlist.{Output, Netlist}
use Rattle.gate_lower.specs.Rules.{latch_bits, held_bits, IsLine, HasLines, IsNetlist, output_names}
use Rattle.gate_lower.specs.Tapped.{operand, gate_logic, register_name, delay_register, delay_registers, latch_registers, gate_assigns, output_assigns, tapped_module}
use Rattle.gate_lower.proofs.TappedForm.{length_gate_assigns, length_output_assigns}
use Rattle.gate_lower.proofs.Validity.{wire_count, register_count, few_registers, width-le-bits}

-- the length of texts one after another
length3 : (a b c : List ℕ) → length (a ++ b ++ c) ≡ length a + length b + length c
length3 a b c = omega (arith, length-append (a ++ b) c, length-append a b)

length4 : (a b c d : List ℕ) → length (a ++ b ++ c ++ d) ≡ length a + length b + length c + length d
length4 a b c d = omega (arith, length-append (a ++ b ++ c) d, length3 a b c)

length5 : (a b c d e : List ℕ) → length (a ++ b ++ c ++ d ++ e) ≡ length a + length b + length c + length d + length e
length5 a b c d e = omega (arith, length-append (a ++ b ++ c ++ d) e, length4 a b c d)

length6 : (a b c d e f : List ℕ) → length (a ++ b ++ c ++ d ++ e ++ f) ≡ length a + length b + length c + length d + length e + length f
length6 a b c d e f = omega (arith, length-append (a ++ b ++ c ++ d ++ e) f, length5 a b c d e)

-- texts of at most so many bytes each
pieces : {X : Type 0} (f : X → List ℕ) (most : ℕ) (xs : List X) → All (λ x. length (f x) ≤ most) xs → length (flat_map f xs) ≤ length xs * most
pieces f most xs h = subst (λ n. n ≤ length xs * most) (sym (length-flat_map f xs)) (sum_by-le (λ x. length (f x)) most xs h)

few : (n count most : ℕ) → n ≤ count → n * most ≤ count * most
few n count most le = grind (arith)

either : (v : Bool) (n : ℕ) (xs ys : List ℕ) → length xs ≤ n → length ys ≤ n → length (if v then xs else ys) ≤ n
either true n xs ys x y = x
either false n xs ys x y = y

parenthesised : (v : Bool) (n : ℕ) (xs : List ℕ) → length xs ≤ n → length (in_parentheses v xs) ≤ n + 2
parenthesised true n xs le = omega (arith, length3 (codes "(") xs (codes ")"), le)
parenthesised false n xs le = omega (arith, le)

abbrev IsShortName : ℕ → List ℕ → Type 0
IsShortName most name = length name ≤ most

name_short : (most : ℕ) (names : List (List ℕ)) → All (IsShortName most) names → (i : ℕ) → length (name_text (slice_get names i)) ≤ most
name_short most names h i = elim (cases_lt i (length names)) [
  | inl lt ↦ subst (λ z. length (name_text z) ≤ most) (sym (slice_get-get_or names i [] lt)) (h i [] lt)
  | inr past ↦ subst (λ z. length (name_text z) ≤ most) (sym (slice_get_past names i (omega (arith, past)))) (omega arith)
]

decimal_short : (n : ℕ) → n < 100000 → length (decimal n) ≤ 5
decimal_short n lt = length-decimal-le 5 n (omega arith) (omega (arith, lt)) (omega (arith, lt))

register_name_short : (h : ℕ) → h < 65536 → length (register_name h) ≤ 6
register_name_short h lt = omega (arith, length-append (codes "r") (decimal h), decimal_short h (omega (arith, lt)))

numbered_short : (n : ℕ) → n ≤ 65536 → All (IsShortName 6) (numbered (codes "w") n)
numbered_short zero le = All-nil (IsShortName 6)
numbered_short (suc n) le =
    let name : length (numbered_name (codes "w") n) ≤ 6 = omega (arith, length-append (codes "w") (decimal n), decimal_short n (omega (arith, le))) in
    All-append (IsShortName 6) (numbered (codes "w") n) (numbered_name (codes "w") n ∷ []) (numbered_short n (omega (arith, le)))
    (All-cons (IsShortName 6) (numbered_name (codes "w") n) [] name (All-nil (IsShortName 6)))

port_short : (names : List (List ℕ)) → All (λ name. IsTrue (is_port_name name)) names → All (IsShortName 32) names
port_short names h = λ k d lt. one (get_or names k d) (h k d lt)
  where
    one : (name : List ℕ) → is_port_name name ≡ true → length name ≤ 32
    one [] e = omega arith
    one (b ∷ name) e = leb-true (length (b ∷ name)) 32 (and_parts _ (nat_le (length (b ∷ name)) 32) e).1

-- the name and the width of a register are short
record IsSmall (r : Register) : Type 0 where
  name : length r.name ≤ 6
  width : r.width ≤ 65536

delays_small : (n : ℕ) (ds : List Delay) → n + length ds ≤ 65536 → ((i : ℕ) (d : Delay) → slice_get ds i ≡ Some d → d.width ≤ 65536) → All IsSmall (delay_registers n ds)
delays_small n [] le w = All-nil IsSmall
delays_small n (d ∷ ds) le w = All-cons IsSmall (delay_register n d) (delay_registers (suc n) ds) (record { name = register_name_short n (omega (arith, le)); width = w 0 d refl }) (delays_small (suc n) ds (omega (arith, le)) (λ i z e. w (suc i) z e))

latches_small : (k h : ℕ) (qs : List Gate) → h + held_bits qs ≤ 65536 → All IsSmall (latch_registers k h qs)
latches_small k h [] le = All-nil IsSmall
latches_small k h (gate.Or p q ∷ qs) le = latches_small (suc k) (h + 0) qs (omega (arith, le))
latches_small k h (gate.And p q ∷ qs) le = latches_small (suc k) (h + 0) qs (omega (arith, le))
latches_small k h (gate.Latch p q ∷ qs) le =
    All-cons IsSmall (record { name = register_name h; width = 1; next = Wire k }) (latch_registers (suc k) (h + 1) qs)
    (record { name = register_name_short h (omega (arith, le)); width = omega arith }) (latches_small (suc k) (h + 1) qs (omega (arith, le)))

bit_short : (r : Register) (k : ℕ) → IsSmall r → k < 65536 → length (bit_text r k) ≤ 13
bit_short r k small lt =
    either (r.width == 1) 13 r.name (r.name ++ codes "[" ++ decimal k ++ codes "]") (omega (arith, small.name))
    (omega (arith, small.name, length4 r.name (codes "[") (decimal k) (codes "]"), decimal_short k (omega (arith, lt))))

register_bit_short : (rs : List Register) → All IsSmall rs → (r k : ℕ) → k < 65536 → length (register_bit_text (slice_get rs r) k) ≤ 13
register_bit_short rs small r k lt = elim (cases_lt r (length rs)) [
  | inl w ↦
      let none : Register = record { name = []; width = 0; next = Wire 0 } in
      subst (λ z. length (register_bit_text z k) ≤ 13) (sym (slice_get-get_or rs r none w)) (bit_short (get_or rs r none) k (small r none w) lt)
  | inr past ↦ subst (λ z. length (register_bit_text z k) ≤ 13) (sym (slice_get_past rs r (omega (arith, past)))) (omega arith)
]

module _ (g : Netlist) (ok : IsNetlist g) where
  abbrev m : Circuit
  m = tapped_module g

  abbrev first : ℕ
  first = length g.delays

  width_short : (n : ℕ) (d : Delay) → slice_get g.delays n ≡ Some d → d.width ≤ 65536
  width_short n d e = omega (arith, width-le-bits g.delays n d e, ok.few_bits)

  all_small : All IsSmall m.regs
  all_small = All-append IsSmall (delay_registers 0 g.delays) (latch_registers 0 first g.gates)
      (delays_small 0 g.delays (omega (arith, few_registers g ok)) width_short) (latches_small 0 first g.gates (few_registers g ok))

  input_short : (i : ℕ) → length (name_text (slice_get m.inputs i)) ≤ 32
  input_short i = name_short 32 g.inputs (port_short g.inputs ok.good_input_names) i

  output_short : (o : ℕ) → length (name_text (slice_get m.outputs o)) ≤ 32
  output_short o = name_short 32 (output_names g.outputs) (port_short (output_names g.outputs) ok.good_output_names) o

  wire_short : (w : ℕ) → length (name_text (slice_get m.wires w)) ≤ 6
  wire_short w = name_short 6 m.wires (numbered_short (length g.gates) (omega (arith, ok.few_gates))) w

  -- an operand in an expression
  line_short : (k : ℕ) (l : Line) → IsLine g k l → length (logic_text m (operand l)) ≤ 40
  line_short k line.Low h = omega arith
  line_short k (line.Input i) h = omega (arith, length-append (codes "in_") (name_text (slice_get m.inputs i)), input_short i)
  line_short k (line.Gate j) h = omega (arith, wire_short j)
  line_short k (line.Tap n c) h = omega (arith, register_bit_short m.regs all_small n (c - 1) (omega (arith, h.2, h.3, width_short n h.0 h.1)))

  operand_short : (k : ℕ) (l : Line) → IsLine g k l → length (operand_text m (operand l)) ≤ 42
  operand_short k l h = parenthesised (is_compound (operand l)) 40 (logic_text m (operand l)) (line_short k l h)

  -- the longest gate: a latch
  gate_short : (k h : ℕ) (q : Gate) → HasLines g k q → length (logic_text m (gate_logic h q)) ≤ 120
  gate_short k h (gate.Or p q) e =
      omega (arith, length3 (operand_text m (operand p)) (codes " | ") (operand_text m (operand q)), operand_short k p e.0, operand_short k q e.1)
  gate_short k h (gate.And p q) e =
      omega (arith, length3 (operand_text m (operand p)) (codes " & ") (operand_text m (operand q)), operand_short k p e.0, operand_short k q e.1)
  gate_short k h (gate.Latch p q) e =
      let held = register_bit_short m.regs all_small h 0 (omega arith) in
      let not_yet : length (logic_text m (Not (operand q))) ≤ 43 = omega (arith, length-append (codes "~") (operand_text m (operand q)), operand_short k q e.1) in
      let rises : length (logic_text m (And (operand p) (Not (operand q)))) ≤ 88 =
      omega (arith, length3 (operand_text m (operand p)) (codes " & ") (logic_text m (Not (operand q))), operand_short k p e.0, not_yet) in
      let inner = parenthesised true 88 (logic_text m (And (operand p) (Not (operand q)))) rises in
      omega (arith, length3 (logic_text m (Reg h 0)) (codes " | ") (in_parentheses true (logic_text m (And (operand p) (Not (operand q))))), held, inner)

  target_short : (t : Target) → length (target_text m t) ≤ 36
  target_short (target.Wire w) = omega (arith, wire_short w)
  target_short (target.Out o) = omega (arith, length-append (codes "out_") (name_text (slice_get m.outputs o)), output_short o)

  abbrev IsShortAssign : Assignment → Type 0
  IsShortAssign a = length (assign_line m a) ≤ 180

  assign_short : (a : Assignment) → length (logic_text m a.bit) ≤ 120 → IsShortAssign a
  assign_short a le =
      omega (arith, length5 (codes "  assign ") (target_text m a.target) (codes " = ") (logic_text m a.bit) (codes ";\n"), target_short a.target, le)

  gates_short : (k h : ℕ) (qs : List Gate) → ((i : ℕ) (q : Gate) → slice_get qs i ≡ Some q → HasLines g (k + i) q) → All IsShortAssign (gate_assigns k h qs)
  gates_short k h [] e = All-nil IsShortAssign
  gates_short k h (q ∷ qs) e =
      All-cons IsShortAssign (record { target = target.Wire k; bit = gate_logic h q }) (gate_assigns (suc k) (h + latch_bits q) qs)
      (assign_short (record { target = target.Wire k; bit = gate_logic h q }) (gate_short (k + 0) h q (e 0 q refl)))
      (gates_short (suc k) (h + latch_bits q) qs (λ i z y. let n : k + suc i ≡ suc k + i = omega arith in subst (λ v. HasLines g v z) n (e (suc i) z y)))

  outputs_short : (o : ℕ) (ls : List Output) → ((i : ℕ) (l : Output) → slice_get ls i ≡ Some l → IsLine g (length g.gates) l.line) → All IsShortAssign (output_assigns o ls)
  outputs_short o [] e = All-nil IsShortAssign
  outputs_short o (l ∷ ls) e =
      All-cons IsShortAssign (record { target = target.Out o; bit = operand l.line }) (output_assigns (suc o) ls)
      (assign_short (record { target = target.Out o; bit = operand l.line }) (omega (arith, line_short (length g.gates) l.line (e 0 l refl)))) (outputs_short (suc o) ls (λ i z y. e (suc i) z y))

  all_assigns_short : All IsShortAssign m.assigns
  all_assigns_short = All-append IsShortAssign (gate_assigns 0 first g.gates) (output_assigns 0 g.outputs)
      (gates_short 0 first g.gates (λ i q e. let n : i ≡ 0 + i = omega arith in subst (λ v. HasLines g v q) n (ok.gates i q e))) (outputs_short 0 g.outputs ok.outputs)

  -- what a register takes is short too
  abbrev TakesShort : Register → Type 0
  TakesShort r = length (logic_text m r.next) ≤ 40

  delays_take : (n : ℕ) (ds : List Delay) → ((i : ℕ) (d : Delay) → slice_get ds i ≡ Some d → IsLine g (length g.gates) d.from) → All TakesShort (delay_registers n ds)
  delays_take n [] e = All-nil TakesShort
  delays_take n (d ∷ ds) e = All-cons TakesShort (delay_register n d) (delay_registers (suc n) ds) (line_short (length g.gates) d.from (e 0 d refl)) (delays_take (suc n) ds (λ i z y. e (suc i) z y))

  latches_take : (k h : ℕ) (qs : List Gate) → All TakesShort (latch_registers k h qs)
  latches_take k h [] = All-nil TakesShort
  latches_take k h (gate.Or p q ∷ qs) = latches_take (suc k) (h + 0) qs
  latches_take k h (gate.And p q ∷ qs) = latches_take (suc k) (h + 0) qs
  latches_take k h (gate.Latch p q ∷ qs) =
      All-cons TakesShort (record { name = register_name h; width = 1; next = Wire k }) (latch_registers (suc k) (h + 1) qs) (omega (arith, wire_short k)) (latches_take (suc k) (h + 1) qs)

  all_take : All TakesShort m.regs
  all_take = All-append TakesShort (delay_registers 0 g.delays) (latch_registers 0 first g.gates) (delays_take 0 g.delays ok.delays) (latches_take 0 first g.gates)

  declaration_short : (r : Register) → IsSmall r → length (register_line r) ≤ 30
  declaration_short r small =
      either (r.width == 1) 30 (codes "  reg " ++ r.name ++ codes ";\n") (codes "  reg [" ++ decimal (r.width - 1) ++ codes ":0] " ++ r.name ++ codes ";\n")
      (omega (arith, small.name, length3 (codes "  reg ") r.name (codes ";\n")))
      (omega (arith, small.name, length5 (codes "  reg [") (decimal (r.width - 1)) (codes ":0] ") r.name (codes ";\n"), decimal_short (r.width - 1) (omega (arith, small.width))))

  next_short : (r : Register) → IsSmall r → TakesShort r → length (next_text m r) ≤ 60
  next_short r small takes =
      either (r.width == 1) 60 (logic_text m r.next) (codes "{" ++ r.name ++ codes "[" ++ decimal (r.width - 2) ++ codes ":0], " ++ logic_text m r.next ++ codes "}")
      (omega (arith, takes))
      (omega (arith, small.name, takes, length6 r.name (codes "[") (decimal (r.width - 2)) (codes ":0], ") (logic_text m r.next) (codes "}"), decimal_short (r.width - 2) (omega (arith, small.width))))

  always_start_short : length always_start ≤ 40
  unfolding always_start
  always_start_short = omega arith

  always_short : (r : Register) → IsSmall r → TakesShort r → length (always_line m r) ≤ 150
  always_short r small takes =
      omega (
        arith,
        small.name,
        always_start_short,
        next_short r small takes,
        length-append (reset_text r) (update_text m r),
        length5 always_start r.name (codes " <= ") (decimal r.width) (codes "'b0; else "),
        decimal_short r.width (omega (arith, small.width)),
        length4 r.name (codes " <= ") (next_text m r) (codes ";\n"),
      )

  around_short : (before after : List ℕ) (most : ℕ) (names : List (List ℕ)) → All (IsShortName most) names → All (λ name. length (around before after name) ≤ length before + most + length after) names
  around_short before after most names h = λ k d lt. omega (arith, length3 before (get_or names k d) after, h k d lt)

  named : (before after : List ℕ) (most count : ℕ) (names : List (List ℕ)) → length names ≤ count → All (IsShortName most) names → length (flat_map (around before after) names) ≤ count * (length before + most + length after)
  named before after most count names le h =
      let e = pieces (around before after) (length before + most + length after) names (around_short before after most names h) in
      omega (arith, e, few (length names) count (length before + most + length after) le)

  -- the parts of the text, each with its bound
  wires_named : All (IsShortName 6) m.wires
  wires_named = numbered_short (length g.gates) (omega (arith, ok.few_gates))

  inputs_named : All (IsShortName 32) m.inputs
  inputs_named = port_short g.inputs ok.good_input_names

  outputs_named : All (IsShortName 32) m.outputs
  outputs_named = port_short (output_names g.outputs) ok.good_output_names

  few_outputs : length m.outputs ≤ 64
  few_outputs = omega (arith, length-map g.outputs (λ (o : Output). o.name), ok.few_outputs)

  few_wires : length m.wires ≤ 16384
  few_wires = omega (arith, wire_count g ok, ok.few_gates)

  few_regs : length m.regs ≤ 65536
  few_regs = omega (arith, register_count g ok, few_registers g ok)

  few_assigns : length m.assigns ≤ 16448
  few_assigns = omega (arith, length-append (gate_assigns 0 first g.gates) (output_assigns 0 g.outputs), length_gate_assigns 0 first g.gates, length_output_assigns 0 g.outputs, ok.few_gates, ok.few_outputs)

  -- fixed texts, and the lists of ports and wires
  starts_short : length header_start + length clock_lines ≤ 60
  unfolding header_start clock_lines
  starts_short = omega arith

  ports_short : length (input_ports m) + length (output_ports m) ≤ 64 * 37 + 64 * 38
  unfolding input_ports output_ports
  ports_short = omega (arith, named (codes ", in_") [] 32 64 m.inputs ok.few_inputs inputs_named, named (codes ", out_") [] 32 64 m.outputs few_outputs outputs_named)

  port_lines_short : length (input_lines m) + length (output_lines m) ≤ 64 * 45 + 64 * 47
  unfolding input_lines output_lines
  port_lines_short = omega (arith, named (codes "  input in_") (codes ";\n") 32 64 m.inputs ok.few_inputs inputs_named, named (codes "  output out_") (codes ";\n") 32 64 m.outputs few_outputs outputs_named)

  wire_lines_short : length (wire_lines m) ≤ 16384 * 15
  unfolding wire_lines
  wire_lines_short = omega (arith, named (codes "  wire ") (codes ";\n") 6 16384 m.wires few_wires wires_named)

  register_lines_short : length (flat_map register_line m.regs) ≤ 65536 * 30
  register_lines_short =
      let e = pieces register_line 30 m.regs (λ k d lt. declaration_short (get_or m.regs k d) (all_small k d lt)) in
      omega (arith, e, few_regs)

  assigns_short : length (flat_map (assign_line m) m.assigns) ≤ 16448 * 180
  assigns_short = let e = pieces (assign_line m) 180 m.assigns all_assigns_short in omega (arith, e, few_assigns)

  always_lines_short : length (flat_map (always_line m) m.regs) ≤ 65536 * 150
  always_lines_short =
      let e = pieces (always_line m) 150 m.regs (λ k d lt. always_short (get_or m.regs k d) (all_small k d lt) (all_take k d lt)) in
      omega (arith, e, few_regs)

  pub is_short : length (module_text m) ≤ 16777216
  is_short =
      let header = length4 header_start (input_ports m) (output_ports m) (codes ");\n") in
      let declarations = length5 clock_lines (input_lines m) (output_lines m) (wire_lines m) (flat_map register_line m.regs) in
      let statements = length3 (flat_map (assign_line m) m.assigns) (flat_map (always_line m) m.regs) (codes "endmodule\n") in
      let whole = length3 (header_text m) (declarations_text m) (statements_text m) in
      omega (arith, whole, header, declarations, statements, starts_short, ports_short, port_lines_short, wire_lines_short, register_lines_short, assigns_short, always_lines_short)
