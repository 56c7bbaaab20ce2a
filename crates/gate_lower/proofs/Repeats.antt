-- In the module of gates no gate and no delay register is there twice.
use Rattle.std.proofs.Common.{◌≡◌, ℕ, ◌+◌, ◌-◌, ◌≤◌, ◌<◌, true, get_or, length, refl, ap, sym, ◌∙◌, subst, arith, IsTrue, Some, inl, inr, zero-add, length-append}
use Rattle.std.specs.Prelude.{slice_get}
use Rattle.std.proofs.lemmas.Bool.{cases_lt}
use Rattle.std.proofs.lemmas.Option.{slice_get_within, slice_get-get_or}
use Rattle.circuit.specs.declared.bit.Target.TheVariants as target
use Rattle.circuit.specs.Circuit.{Logic, Circuit, Assignment, Register}
use Rattle.circuit.specs.Circuit as b
use Rattle.circuit.specs.Repeats.{is_operand, IsAssigned, Kind, OrGate, AndGate, LatchGate, IsLatch, HasKind, IsGate, EachWireHasGate, EachOutputIsOperand, NoGateTwice, HoldsLatch, IsDelayRegister, NoDelayTwice, HasNoRepeatedGate}
use Rattle.gate_lower.specs.declared.gates.Line.{Line}
use Rattle.gate_lower.specs.declared.gates.Line.TheVariants as line
use Rattle.gate_lower.specs.declared.gates.Gate.{Gate}
use Rattle.gate_lower.specs.declared.gates.Gate.TheVariants as gate
use Rattle.gate_lower.specs.declared.gates.Delay.{Delay}
use Rattle.gate_lower.specs.Netlist.{Netlist}
use Rattle.gate_lower.specs.Rules.{IsLine, IsNetlist}
use Rattle.gate_lower.specs.Tapped.{operand, gate_logic, delay_register, delay_registers, latch_registers, tapped_module}
use Rattle.gate_lower.proofs.Generic.{some_is}
use Rattle.gate_lower.proofs.TappedForm.{delay_there, held, latch_there, latch_of, length_delay_registers}
use Rattle.gate_lower.proofs.Order.{which, gate_there, wire_inj, wire_out}
use Rattle.gate_lower.proofs.Validity.{wire_count}

reg_is : (i j k l : ℕ) → b.Reg i k ≡ b.Reg j l → (i ≡ j) × (k ≡ l)
reg_is i j k l e = (cc, cc)

wire_is : (i j : ℕ) → b.Wire i ≡ b.Wire j → i ≡ j
wire_is i j e = cc

input_is : (i j : ℕ) → b.Input i ≡ b.Input j → i ≡ j
input_is i j e = cc

module _ (g : Netlist) (ok : IsNetlist g) where
  abbrev m : Circuit
  m = tapped_module g

  -- two taps are the same bit only where they are the same
  same_tap : (n k c e : ℕ) → 1 ≤ c → 1 ≤ e → operand (line.Tap n c) ≡ operand (line.Tap k e) → line.Tap n c ≡ line.Tap k e
  same_tap n k c e onec onee h =
      let same = reg_is n k (c - 1) (e - 1) h in
      let more : c ≡ e = omega (arith, same.1, onec, onee) in
      ap (λ z. line.Tap z c) same.0 ∙ ap (line.Tap k) more

  -- two lines that are there are the same bit only where they are the same
  same_line : (i j : ℕ) (l r : Line) → IsLine g i l → IsLine g j r → operand l ≡ operand r → l ≡ r
  same_line i j line.Low line.Low h k e = refl
  same_line i j line.Low (line.Input y) h k e = absurd (cc)
  same_line i j line.Low (line.Gate y) h k e = absurd (cc)
  same_line i j line.Low (line.Tap n c) h k e = absurd (cc)
  same_line i j (line.Input x) line.Low h k e = absurd (cc)
  same_line i j (line.Input x) (line.Input y) h k e = ap line.Input (input_is x y e)
  same_line i j (line.Input x) (line.Gate y) h k e = absurd (cc)
  same_line i j (line.Input x) (line.Tap n c) h k e = absurd (cc)
  same_line i j (line.Gate x) line.Low h k e = absurd (cc)
  same_line i j (line.Gate x) (line.Input y) h k e = absurd (cc)
  same_line i j (line.Gate x) (line.Gate y) h k e = ap line.Gate (wire_is x y e)
  same_line i j (line.Gate x) (line.Tap n c) h k e = absurd (cc)
  same_line i j (line.Tap o d) line.Low h k e = absurd (cc)
  same_line i j (line.Tap o d) (line.Input y) h k e = absurd (cc)
  same_line i j (line.Tap o d) (line.Gate y) h k e = absurd (cc)
  same_line i j (line.Tap o d) (line.Tap n c) h k e = same_tap o n d c h.2 k.2 e

  is_bit : (l : Line) → is_operand (operand l) ≡ true
  is_bit line.Low = refl
  is_bit (line.Input i) = refl
  is_bit (line.Gate k) = refl
  is_bit (line.Tap n c) = refl

  -- the assign of a gate's wire
  assigned : (w : ℕ) (q : Gate) → slice_get g.gates w ≡ Some q → IsAssigned m (target.Wire w) (gate_logic (held g w) q)
  assigned w q e = record { place = w; assign = _; there = gate_there g ok w q e; target_is = ap target.Wire (zero-add w); bit_is = refl }

  -- what is assigned to a wire is the expression of its gate
  record OfWire (w : ℕ) (e : Logic) : Type 0 where
    gate : Gate
    there : slice_get g.gates w ≡ Some gate
    is : e ≡ gate_logic (held g w) gate

  of_wire : (w : ℕ) (e : Logic) → IsAssigned m (target.Wire w) e → OfWire w e
  of_wire w e a = elim (which g ok a.place a.assign a.there) [
    | inl h ↦
        let t : target.Wire (0 + a.place) ≡ target.Wire w = ap (λ (z : Assignment). z.target) h.is ∙ a.target_is in
        let same : a.place ≡ w = omega (arith, wire_inj _ _ t) in
        record {
          gate = h.gate;
          there = subst (λ k. slice_get g.gates k ≡ Some h.gate) same h.there;
          is = sym a.bit_is ∙ (ap (λ (z : Assignment). z.bit) (sym h.is) ∙ ap (λ k. gate_logic (held g k) h.gate) same);
        }
    | inr h ↦ absurd (wire_out w (0 + h.place) (sym a.target_is ∙ ap (λ (z : Assignment). z.target) (sym h.is)))
  ]

  abbrev gate_with : Kind → Line → Line → Gate
  gate_with OrGate x y = gate.Or x y
  gate_with AndGate x y = gate.And x y
  gate_with LatchGate x y = gate.Latch x y

  -- the gate of a wire as it is among the gates
  record Found (w : ℕ) (kind : Kind) (p q : Logic) : Type 0 where
    left : Line
    right : Line
    there : slice_get g.gates w ≡ Some (gate_with kind left right)
    left_is : p ≡ operand left
    right_is : q ≡ operand right

  no_operand : (x y : Logic) → is_operand (b.And x y) ≡ true → ⊥
  no_operand x y h = absurd (cc)

  find_or : (w : ℕ) (p q : Logic) (z : Gate) → is_operand q ≡ true → slice_get g.gates w ≡ Some z → b.Or p q ≡ gate_logic (held g w) z → Found w OrGate p q
  find_or w p q (gate.Or x y) o t e = record { left = x; right = y; there = t; left_is = cc; right_is = cc }
  find_or w p q (gate.And x y) o t e = absurd (cc)
  find_or w p q (gate.Latch x y) o t e =
      let f : q ≡ b.And (operand x) (b.Not (operand y)) = cc in
      absurd (no_operand (operand x) (b.Not (operand y)) (ap is_operand (sym f) ∙ o))

  find_and : (w : ℕ) (p q : Logic) (z : Gate) → slice_get g.gates w ≡ Some z → b.And p q ≡ gate_logic (held g w) z → Found w AndGate p q
  find_and w p q (gate.Or x y) t e = absurd (cc)
  find_and w p q (gate.And x y) t e = record { left = x; right = y; there = t; left_is = cc; right_is = cc }
  find_and w p q (gate.Latch x y) t e = absurd (cc)

  find_latch : (w h : ℕ) (p q : Logic) (z : Gate) → slice_get g.gates w ≡ Some z → b.Or (b.Reg h 0) (b.And p (b.Not q)) ≡ gate_logic (held g w) z → Found w LatchGate p q
  find_latch w h p q (gate.Or x y) t e =
      let f : operand y ≡ b.And p (b.Not q) = cc in
      absurd (no_operand p (b.Not q) (ap is_operand (sym f) ∙ is_bit y))
  find_latch w h p q (gate.And x y) t e = absurd (cc)
  find_latch w h p q (gate.Latch x y) t e = record { left = x; right = y; there = t; left_is = cc; right_is = cc }

  find : (w : ℕ) (kind : Kind) (p q : Logic) → IsTrue (is_operand q) → HasKind m w kind p q → Found w kind p q
  find w OrGate p q o h = let u = of_wire w (b.Or p q) h in find_or w p q u.gate o u.there u.is
  find w AndGate p q o h = let u = of_wire w (b.And p q) h in find_and w p q u.gate u.there u.is
  find w LatchGate p q o h = let u = of_wire w (b.Or (b.Reg h.0 0) (b.And p (b.Not q))) h.1.assigned in find_latch w h.0 p q u.gate u.there u.is

  lines_of : (w : ℕ) (kind : Kind) (x y : Line) → slice_get g.gates w ≡ Some (gate_with kind x y) → IsLine g w x × IsLine g w y
  lines_of w OrGate x y t = ok.gates w (gate.Or x y) t
  lines_of w AndGate x y t = ok.gates w (gate.And x y) t
  lines_of w LatchGate x y t = ok.gates w (gate.Latch x y) t

  no_gate_twice : NoGateTwice m
  no_gate_twice v w kind p q f s =
      let a = find v kind p q f.right f.kind_is in
      let c = find w kind p q s.right s.kind_is in
      let la = lines_of v kind a.left a.right a.there in
      let lc = lines_of w kind c.left c.right c.there in
      let left = same_line v w a.left c.left la.0 lc.0 (sym a.left_is ∙ c.left_is) in
      let right = same_line v w a.right c.right la.1 lc.1 (sym a.right_is ∙ c.right_is) in
      ok.gates_once v w (gate_with kind c.left c.right) (a.there ∙ (ap (λ z. Some (gate_with kind z a.right)) left ∙ ap (λ z. Some (gate_with kind c.left z)) right)) c.there

  is_latch : (w : ℕ) (x y : Line) → slice_get g.gates w ≡ Some (gate.Latch x y) → IsLatch m w (held g w) (operand x) (operand y)
  is_latch w x y t = record {
    assigned = assigned w (gate.Latch x y) t;
    held = record { register = _; there = latch_there g w x y t; one_bit = refl; next_is = refl };
  }

  -- the registers after those of the delays hold latches
  holds_latch : (h : ℕ) → length g.delays ≤ h → h < length m.regs → HoldsLatch m h
  holds_latch h le lt =
      let j = h - length g.delays in
      let few : j < length (latch_registers 0 (length g.delays) g.gates) = omega (arith, le, lt, length-append (delay_registers 0 g.delays) (latch_registers 0 (length g.delays) g.gates), length_delay_registers 0 g.delays) in
      let l = latch_of 0 (length g.delays) g.gates j few in
      let same : held g l.place ≡ h = omega (arith, l.number, le) in
      record { wire = l.place; left_line = operand l.left; right_line = operand l.right; left = is_bit l.left; right = is_bit l.right; latch = subst (λ z. IsLatch m l.place z (operand l.left) (operand l.right)) same (is_latch l.place l.left l.right l.there) }

  -- the delay of a delay register
  record OfDelay (h : ℕ) (next : Logic) : Type 0 where
    delay : Delay
    there : slice_get g.delays h ≡ Some delay
    next_is : operand delay.from ≡ next

  of_delay : (h : ℕ) (next : Logic) → IsDelayRegister m h next → OfDelay h next
  of_delay h next r = elim (cases_lt h (length g.delays)) [
    | inl lt ↦
        let none : Delay = record { from = line.Low; width = 0 } in
        let there = slice_get-get_or g.delays h none lt in
        let same = some_is r.register (delay_register h (get_or g.delays h none)) (sym r.there ∙ delay_there g h (get_or g.delays h none) there) in
        record { delay = get_or g.delays h none; there = there; next_is = sym (ap (λ (z : Register). z.next) same) ∙ r.next_is }
    | inr le ↦ absurd (r.no_latch (holds_latch h (omega (arith, le)) (slice_get_within m.regs h r.register r.there)))
  ]

  no_delay_twice : NoDelayTwice m
  no_delay_twice h k next r s =
      let a = of_delay h next r in
      let c = of_delay k next s in
      let n = length g.gates in
      let same = same_line n n a.delay.from c.delay.from (ok.delays h a.delay a.there) (ok.delays k c.delay c.there) (a.next_is ∙ sym c.next_is) in
      ok.delays_once h k a.delay c.delay a.there c.there same

  abbrev HasGate : ℕ → Type 0
  HasGate w = (kind : Kind) × (p : Logic) × (q : Logic) × IsGate m w kind p q

  has_gate : (w : ℕ) (z : Gate) → slice_get g.gates w ≡ Some z → HasGate w
  has_gate w (gate.Or x y) t = (OrGate, operand x, operand y, record { left = is_bit x; right = is_bit y; kind_is = assigned w (gate.Or x y) t })
  has_gate w (gate.And x y) t = (AndGate, operand x, operand y, record { left = is_bit x; right = is_bit y; kind_is = assigned w (gate.And x y) t })
  has_gate w (gate.Latch x y) t = (
    LatchGate,
    operand x,
    operand y,
    record {
      left = is_bit x;
      right = is_bit y;
      kind_is = (held g w, is_latch w x y t);
    },
  )

  each_wire_has_gate : EachWireHasGate m
  each_wire_has_gate w lt =
      let none : Gate = gate.Or line.Low line.Low in
      has_gate w (get_or g.gates w none) (slice_get-get_or g.gates w none (omega (arith, lt, wire_count g ok)))

  each_output_is_operand : EachOutputIsOperand m
  each_output_is_operand o e a = elim (which g ok a.place a.assign a.there) [
    | inl h ↦ absurd (wire_out (0 + a.place) o (ap (λ (z : Assignment). z.target) h.is ∙ a.target_is))
    | inr h ↦ ap is_operand (sym a.bit_is ∙ ap (λ (z : Assignment). z.bit) (sym h.is)) ∙ is_bit h.out.line
  ]

  pub no_repeated_gate : HasNoRepeatedGate m
  no_repeated_gate = record { gates = each_wire_has_gate; outputs = each_output_is_operand; wires = no_gate_twice; delays = no_delay_twice }
