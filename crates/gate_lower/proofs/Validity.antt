-- The module of gates is valid.
use Rattle.std.proofs.Common.{◌≡◌, ℕ, zero, suc, ◌+◌, ◌-◌, ◌<◌, ◌≤◌, List, [], ◌∷◌, ◌++◌, length, map, refl, ap, ◌∙◌, sym, subst, arith, Some, zero-add, length-append}
use Rattle.std.specs.Prelude.{slice_get, sum_by, codes}
use Rattle.std.specs.List.{AllByRecursion}
use Rattle.std.proofs.lemmas.List.{length-map}
use Rattle.std.proofs.lemmas.List.Elements.{All-from_recursion}
use Rattle.std.proofs.lemmas.List.Sums.{sum_by-cons, sum_by-append}
use Rattle.circuit.specs.Circuit.{Logic, Circuit, Assignment, Register, register_bits}
use Rattle.circuit.specs.Circuit as b
use Rattle.circuit.specs.Names.{numbered}
use Rattle.circuit.specs.Numbering.{HasNumberedNames, HasPortNames}
use Rattle.circuit.specs.Valid.{HasBit, HasValidNames, IsInRange, IsValid}
use Rattle.gate_lower.specs.declared.gates.Line.{Line}
use Rattle.gate_lower.specs.declared.gates.Line.TheVariants as line
use Rattle.gate_lower.specs.declared.gates.Gate.{Gate}
use Rattle.gate_lower.specs.declared.gates.Gate.TheVariants as gate
use Rattle.gate_lower.specs.declared.gates.Delay.{Delay}
use Rattle.gate_lower.specs.Netlist.{Output, Netlist}
use Rattle.gate_lower.specs.Rules as rules
use Rattle.gate_lower.specs.Rules.{latch_bits, delay_bits, held_bits, IsLine, HasLines, IsNetlist}
use Rattle.gate_lower.specs.Tapped.{operand, gate_logic, register_name, delay_register, delay_registers, latch_registers, gate_assigns, output_assigns, tapped_module}
use Rattle.gate_lower.proofs.Generic.{some_is}
use Rattle.gate_lower.proofs.TappedForm.{delay_there, length_delay_registers, length_latch_registers}
use Rattle.gate_lower.proofs.Order.{length-numbered, is_ordered}

module _ (P : Register → Type 0) where
  both : (xs ys : List Register) → AllByRecursion P xs → AllByRecursion P ys → AllByRecursion P (xs ++ ys)
  both [] ys f g = g
  both (x ∷ xs) ys f g = (f.0, both xs ys f.1 g)

-- each register has a bit
abbrev IsWide : Register → Type 0
IsWide r = 1 ≤ r.width

delays_wide : (n : ℕ) (ds : List Delay) → ((i : ℕ) (d : Delay) → slice_get ds i ≡ Some d → 1 ≤ d.width) → AllByRecursion IsWide (delay_registers n ds)
delays_wide n [] w = tt
delays_wide n (d ∷ ds) w = (w 0 d refl, delays_wide (suc n) ds (λ i z e. w (suc i) z e))

latches_wide : (k h : ℕ) (qs : List Gate) → AllByRecursion IsWide (latch_registers k h qs)
latches_wide k h [] = tt
latches_wide k h (gate.Or p q ∷ qs) = latches_wide (suc k) (h + 0) qs
latches_wide k h (gate.And p q ∷ qs) = latches_wide (suc k) (h + 0) qs
latches_wide k h (gate.Latch p q ∷ qs) = (omega arith, latches_wide (suc k) (h + 1) qs)

-- the bits of the registers
delay_widths : (n : ℕ) (ds : List Delay) → sum_by (λ r. r.width) (delay_registers n ds) ≡ delay_bits ds
delay_widths n [] = refl
delay_widths n (d ∷ ds) = omega (arith, sum_by-cons (λ (z : Register). z.width) (delay_register n d) (delay_registers (suc n) ds), delay_widths (suc n) ds)

latch_widths : (k h : ℕ) (qs : List Gate) → sum_by (λ r. r.width) (latch_registers k h qs) ≡ held_bits qs
latch_widths k h [] = refl
latch_widths k h (gate.Or p q ∷ qs) = latch_widths (suc k) (h + 0) qs ∙ omega arith
latch_widths k h (gate.And p q ∷ qs) = latch_widths (suc k) (h + 0) qs ∙ omega arith
latch_widths k h (gate.Latch p q ∷ qs) =
    omega (arith, sum_by-cons (λ (z : Register). z.width) (record { name = register_name h; width = 1; next = b.Wire k }) (latch_registers (suc k) (h + 1) qs), latch_widths (suc k) (h + 1) qs)

-- a place of registers that are wide has bit 0
bit_there : (rs : List Register) (r : ℕ) → AllByRecursion IsWide rs → r < length rs → HasBit (slice_get rs r) 0
bit_there [] r h lt = absurd (omega arith)
bit_there (x ∷ rs) zero h lt = h.0
bit_there (x ∷ rs) (suc r) h lt = bit_there rs r h.1 (omega arith)

-- each delay has a bit or more
pub length-le-bits : (ds : List Delay) → ((i : ℕ) (d : Delay) → slice_get ds i ≡ Some d → 1 ≤ d.width) → length ds ≤ delay_bits ds
length-le-bits [] w = omega arith
length-le-bits (d ∷ ds) w = omega (arith, w 0 d refl, length-le-bits ds (λ i z e. w (suc i) z e))

pub width-le-bits : (ds : List Delay) (n : ℕ) (d : Delay) → slice_get ds n ≡ Some d → d.width ≤ delay_bits ds
width-le-bits [] n d e = absurd (cc)
width-le-bits (p ∷ ds) zero d e = let same : p.width ≡ d.width = ap (λ (z : Delay). z.width) (some_is p d e) in omega arith
width-le-bits (p ∷ ds) (suc n) d e = omega (arith, width-le-bits ds n d e)

-- the names of w registers from h on
abbrev names_from : ℕ → ℕ → List (List ℕ)
names_from h zero = []
names_from h (suc w) = register_name h ∷ names_from (suc h) w

names_join : (h v w : ℕ) → names_from h (v + w) ≡ names_from h v ++ names_from (h + v) w
names_join h zero w =
    let a : 0 + w ≡ w = omega arith in
    let c : h ≡ h + 0 = omega arith in
    ap (names_from h) a ∙ ap (λ z. names_from z w) c
names_join h (suc v) w =
    let a : suc v + w ≡ suc (v + w) = omega arith in
    let c : suc h + v ≡ h + suc v = omega arith in
    ap (names_from h) a ∙ (ap (λ z. register_name h ∷ z) (names_join (suc h) v w) ∙ ap (λ z. register_name h ∷ (names_from (suc h) v ++ names_from z w)) c)

numbered_from : (n : ℕ) → names_from 0 n ≡ numbered (codes "r") n
numbered_from zero = refl
numbered_from (suc n) =
    let a : suc n ≡ n + 1 = omega arith in
    let c : 0 + n ≡ n = omega arith in
    ap (names_from 0) a ∙ (names_join 0 n 1 ∙ (ap (λ z. z ++ names_from (0 + n) 1) (numbered_from n) ∙ ap (λ z. numbered (codes "r") n ++ register_name z ∷ []) c))

map-append : (xs ys : List Register) → map (λ r. r.name) (xs ++ ys) ≡ map (λ r. r.name) xs ++ map (λ r. r.name) ys
map-append [] ys = refl
map-append (x ∷ xs) ys = ap (λ z. x.name ∷ z) (map-append xs ys)

delay_register_names : (h : ℕ) (ds : List Delay) → map (λ r. r.name) (delay_registers h ds) ≡ names_from h (length ds)
delay_register_names h [] = refl
delay_register_names h (d ∷ ds) = ap (λ z. register_name h ∷ z) (delay_register_names (suc h) ds)

latch_register_names : (k h : ℕ) (qs : List Gate) → map (λ r. r.name) (latch_registers k h qs) ≡ names_from h (held_bits qs)
latch_register_names k h [] = refl
latch_register_names k h (gate.Or p q ∷ qs) =
    let a : h + 0 ≡ h = omega arith in
    let c : held_bits qs ≡ 0 + held_bits qs = omega arith in
    latch_register_names (suc k) (h + 0) qs ∙ (ap (λ z. names_from z (held_bits qs)) a ∙ ap (names_from h) c)
latch_register_names k h (gate.And p q ∷ qs) =
    let a : h + 0 ≡ h = omega arith in
    let c : held_bits qs ≡ 0 + held_bits qs = omega arith in
    latch_register_names (suc k) (h + 0) qs ∙ (ap (λ z. names_from z (held_bits qs)) a ∙ ap (names_from h) c)
latch_register_names k h (gate.Latch p q ∷ qs) =
    let a : h + 1 ≡ suc h = omega arith in
    let c : suc (held_bits qs) ≡ 1 + held_bits qs = omega arith in
    ap (λ z. register_name h ∷ z) (latch_register_names (suc k) (h + 1) qs ∙ ap (λ z. names_from z (held_bits qs)) a) ∙ ap (names_from h) c

-- what is known of wires and registers whose names are numbered
abbrev pub NumberedAreValid : Type 0
NumberedAreValid = (m : Circuit) → HasNumberedNames m → HasPortNames m → HasValidNames m

module _ (g : Netlist) (ok : IsNetlist g) where
  abbrev m : Circuit
  m = tapped_module g

  abbrev first : ℕ
  first = length g.delays

  all_wide : AllByRecursion IsWide m.regs
  all_wide = both IsWide (delay_registers 0 g.delays) (latch_registers 0 first g.gates) (delays_wide 0 g.delays ok.widths) (latches_wide 0 first g.gates)

  pub register_count : length m.regs ≡ first + held_bits g.gates
  register_count = omega (arith, length-append (delay_registers 0 g.delays) (latch_registers 0 first g.gates), length_delay_registers 0 g.delays, length_latch_registers 0 first g.gates)

  pub few_delays : first ≤ 65536
  few_delays = omega (arith, length-le-bits g.delays ok.widths, ok.few_bits)

  pub few_registers : first + held_bits g.gates ≤ 65536
  few_registers = omega (arith, length-le-bits g.delays ok.widths, ok.few_bits)

  pub wire_count : length m.wires ≡ length g.gates
  wire_count = length-numbered (codes "w") (length g.gates)

  pub bit_count : register_bits m ≡ rules.register_bits g
  bit_count = omega (arith, sum_by-append (λ (z : Register). z.width) (delay_registers 0 g.delays) (latch_registers 0 first g.gates), delay_widths 0 g.delays, latch_widths 0 first g.gates)

  register_there : (r : ℕ) → r < first + held_bits g.gates → IsInRange m (b.Reg r 0)
  register_there r lt = bit_there m.regs r all_wide (omega (arith, register_count))

  operand_there : (k : ℕ) (l : Line) → k ≤ length g.gates → IsLine g k l → IsInRange m (operand l)
  operand_there k line.Low le h = tt
  operand_there k (line.Input i) le h = h
  operand_there k (line.Gate j) le h = omega (arith, wire_count)
  operand_there k (line.Tap n c) le h = subst (λ z. HasBit z (c - 1)) (sym (delay_there g n h.0 h.1)) (omega (arith, h.2, h.3))

  gate_there : (k h : ℕ) (q : Gate) → k ≤ length g.gates → h + latch_bits q ≤ first + held_bits g.gates → HasLines g k q → IsInRange m (gate_logic h q)
  gate_there k h (gate.Or p q) le few e = (operand_there k p le e.0, operand_there k q le e.1)
  gate_there k h (gate.And p q) le few e = (operand_there k p le e.0, operand_there k q le e.1)
  gate_there k h (gate.Latch p q) le few e = (register_there h (omega arith), (operand_there k p le e.0, operand_there k q le e.1))

  -- the gates of the list from number k on
  abbrev AreGatesFrom : ℕ → List Gate → Type 0
  AreGatesFrom k qs = (i : ℕ) (q : Gate) → slice_get qs i ≡ Some q → HasLines g (k + i) q

  assigns_there : (k h : ℕ) (qs : List Gate) → k + length qs ≤ length g.gates → h + held_bits qs ≤ first + held_bits g.gates → AreGatesFrom k qs → AllByRecursion (λ a. IsInRange m a.bit) (gate_assigns k h qs)
  assigns_there k h [] le few ls = tt
  assigns_there k h (q ∷ qs) le few ls =
      let same : k + 0 ≡ k = omega arith in (
        gate_there k h q (omega arith) (omega arith) (subst (λ z. HasLines g z q) same (ls 0 q refl)),
        assigns_there (suc k) (h + latch_bits q) qs (omega arith) (omega arith) (λ i z e. let n : k + suc i ≡ suc k + i = omega arith in subst (λ y. HasLines g y z) n (ls (suc i) z e)),
      )

  outputs_there : (o : ℕ) (ls : List Output) → ((i : ℕ) (l : Output) → slice_get ls i ≡ Some l → IsLine g (length g.gates) l.line) → AllByRecursion (λ a. IsInRange m a.bit) (output_assigns o ls)
  outputs_there o [] h = tt
  outputs_there o (l ∷ ls) h = (operand_there (length g.gates) l.line (omega arith) (h 0 l refl), outputs_there (suc o) ls (λ i z e. h (suc i) z e))

  both_assigns : (xs ys : List Assignment) → AllByRecursion (λ a. IsInRange m a.bit) xs → AllByRecursion (λ a. IsInRange m a.bit) ys → AllByRecursion (λ a. IsInRange m a.bit) (xs ++ ys)
  both_assigns [] ys f e = e
  both_assigns (x ∷ xs) ys f e = (f.0, both_assigns xs ys f.1 e)

  delays_there : (n : ℕ) (ds : List Delay) → ((i : ℕ) (d : Delay) → slice_get ds i ≡ Some d → IsLine g (length g.gates) d.from) → AllByRecursion (λ r. IsInRange m r.next) (delay_registers n ds)
  delays_there n [] e = tt
  delays_there n (d ∷ ds) e = (operand_there (length g.gates) d.from (omega arith) (e 0 d refl), delays_there (suc n) ds (λ i z y. e (suc i) z y))

  latches_there : (k h : ℕ) (qs : List Gate) → k + length qs ≤ length g.gates → AllByRecursion (λ r. IsInRange m r.next) (latch_registers k h qs)
  latches_there k h [] le = tt
  latches_there k h (gate.Or p q ∷ qs) le = latches_there (suc k) (h + 0) qs (omega arith)
  latches_there k h (gate.And p q ∷ qs) le = latches_there (suc k) (h + 0) qs (omega arith)
  latches_there k h (gate.Latch p q ∷ qs) le = (omega (arith, wire_count), latches_there (suc k) (h + 1) qs (omega arith))

  names : map (λ r. r.name) m.regs ≡ numbered (codes "r") (first + held_bits g.gates)
  names =
      map-append (delay_registers 0 g.delays) (latch_registers 0 first g.gates)
      ∙ (ap (λ z. z ++ map (λ (r : Register). r.name) (latch_registers 0 first g.gates)) (delay_register_names 0 g.delays)
      ∙ (ap (λ z. names_from 0 first ++ z) (latch_register_names 0 first g.gates)
      ∙ (ap (λ z. names_from 0 first ++ names_from z (held_bits g.gates)) (sym (zero-add first))
      ∙ (sym (names_join 0 first (held_bits g.gates)) ∙ numbered_from (first + held_bits g.gates)))))

  numbered_names : HasNumberedNames m
  numbered_names = record {
    few_wires = omega (arith, wire_count, ok.few_gates);
    few_regs = omega (arith, register_count, few_registers);
    wires = ap (numbered (codes "w")) (sym wire_count);
    regs = names ∙ ap (numbered (codes "r")) (sym register_count);
  }

  port_names : HasPortNames m
  port_names = record { inputs = ok.good_input_names; outputs = ok.good_output_names; distinct_inputs = ok.distinct_inputs; distinct_outputs = ok.distinct_outputs }

  pub is_valid : NumberedAreValid → IsValid m
  is_valid numbered_are_valid = record {
    some_input = ok.some_input;
    few_inputs = ok.few_inputs;
    some_output = omega (arith, length-map g.outputs (λ (o : Output). o.name), ok.some_output);
    few_outputs = omega (arith, length-map g.outputs (λ (o : Output). o.name), ok.few_outputs);
    few_wires = omega (arith, wire_count, ok.few_gates);
    few_bits = omega (arith, bit_count, ok.few_bits);
    widths = All-from_recursion IsWide m.regs all_wide;
    names = numbered_are_valid m numbered_names port_names;
    assigned_in_range = All-from_recursion (λ (a : Assignment). IsInRange m a.bit) m.assigns
        (both_assigns (gate_assigns 0 first g.gates) (output_assigns 0 g.outputs)
        (assigns_there 0 first g.gates (omega arith) (omega arith) (λ i q e. subst (λ z. HasLines g z q) (sym (zero-add i)) (ok.gates i q e)))
        (outputs_there 0 g.outputs ok.outputs));
    next_in_range = All-from_recursion (λ (r : Register). IsInRange m r.next) m.regs
        (both (λ r. IsInRange m r.next) (delay_registers 0 g.delays) (latch_registers 0 first g.gates)
        (delays_there 0 g.delays ok.delays) (latches_there 0 first g.gates (omega arith)));
    ordered = is_ordered g ok;
  }
