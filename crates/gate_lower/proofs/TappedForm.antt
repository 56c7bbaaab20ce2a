-- Which register and which assign of the module of gates is where.
use Rattle.std.proofs.Common.{◌≡◌, ℕ, zero, suc, ◌+◌, ◌-◌, ◌<◌, ◌≤◌, false, List, [], ◌∷◌, length, get_or, refl, ap, ◌∙◌, sym, arith, Some, zero-add}
use Rattle.std.specs.Prelude.{slice_get}
use Rattle.circuit.specs.declared.bit.Target.TheVariants as target
use Rattle.circuit.specs.Circuit.{Circuit}
use Rattle.gate_lower.specs.declared.gates.Line.{Line}
use Rattle.gate_lower.specs.declared.gates.Gate.{Gate}
use Rattle.gate_lower.specs.declared.gates.Gate.TheVariants as gate
use Rattle.gate_lower.specs.declared.gates.Delay.{Delay}
use Rattle.gate_lower.specs.Netlist.{Output, Netlist}
use Rattle.gate_lower.specs.Rules.{latch_bits, held_bits, IsNetlist}
use Rattle.gate_lower.specs.Timing.{TimeIsLevel}
use Rattle.gate_lower.specs.Tapped.{operand, gate_logic, delay_register, delay_registers, latch_registers, gate_assigns, output_assigns, tapped_module}
use Rattle.gate_lower.proofs.Gets.{get_left, get_right}
use Rattle.gate_lower.proofs.Generic.{some_is, latched, Realises, realised}

-- the register of a delay is at its number
delay_register_at : (h : ℕ) (ds : List Delay) (n : ℕ) (d : Delay) → slice_get ds n ≡ Some d → slice_get (delay_registers h ds) n ≡ Some (delay_register (h + n) d)
delay_register_at h [] n d e = absurd (cc)
delay_register_at h (p ∷ ds) zero d e =
    let k : h ≡ h + 0 = omega arith in
    ap (λ z. Some (delay_register z p)) k ∙ ap (λ z. Some (delay_register (h + 0) z)) (some_is p d e)
delay_register_at h (p ∷ ds) (suc n) d e =
    let k : suc h + n ≡ h + suc n = omega arith in
    delay_register_at (suc h) ds n d e ∙ ap (λ z. Some (delay_register z d)) k

pub length_delay_registers : (h : ℕ) (ds : List Delay) → length (delay_registers h ds) ≡ length ds
length_delay_registers h [] = refl
length_delay_registers h (d ∷ ds) = ap suc (length_delay_registers (suc h) ds)

-- the register of the latch at gate i, where h is the first of the latches
unfoldable pub register_at : ℕ → List Gate → ℕ → ℕ
register_at h [] i = h
register_at h (q ∷ qs) zero = h
register_at h (q ∷ qs) (suc i) = register_at (h + latch_bits q) qs i

pub register_at-le : (h : ℕ) (qs : List Gate) (i : ℕ) → h ≤ register_at h qs i
unfolding register_at
register_at-le h [] i = omega arith
register_at-le h (q ∷ qs) zero = omega arith
register_at-le h (q ∷ qs) (suc i) = omega (arith, register_at-le (h + latch_bits q) qs i)

pub gate_assign_at : (k h : ℕ) (qs : List Gate) (i : ℕ) (q : Gate) → slice_get qs i ≡ Some q →
    slice_get (gate_assigns k h qs) i ≡ Some (record { target = target.Wire (k + i); bit = gate_logic (register_at h qs i) q })
unfolding register_at
gate_assign_at k h [] i q e = absurd (cc)
gate_assign_at k h (p ∷ qs) zero q e =
    let n : k ≡ k + 0 = omega arith in
    ap (λ z. Some (record { target = target.Wire z; bit = gate_logic h p })) n ∙ ap (λ z. Some (record { target = target.Wire (k + 0); bit = gate_logic h z })) (some_is p q e)
gate_assign_at k h (p ∷ qs) (suc i) q e =
    let n : suc k + i ≡ k + suc i = omega arith in
    gate_assign_at (suc k) (h + latch_bits p) qs i q e ∙ ap (λ z. Some (record { target = target.Wire z; bit = gate_logic (register_at (h + latch_bits p) qs i) q })) n

pub output_assign_at : (o : ℕ) (ls : List Output) (i : ℕ) (l : Output) → slice_get ls i ≡ Some l →
    slice_get (output_assigns o ls) i ≡ Some (record { target = target.Out (o + i); bit = operand l.line })
output_assign_at o [] i l e = absurd (cc)
output_assign_at o (p ∷ ls) zero l e =
    let n : o ≡ o + 0 = omega arith in
    ap (λ z. Some (record { target = target.Out z; bit = operand p.line })) n ∙ ap (λ (z : Output). Some (record { target = target.Out (o + 0); bit = operand z.line })) (some_is p l e)
output_assign_at o (p ∷ ls) (suc i) l e =
    let n : suc o + i ≡ o + suc i = omega arith in
    output_assign_at (suc o) ls i l e ∙ ap (λ z. Some (record { target = target.Out z; bit = operand l.line })) n

pub length_gate_assigns : (k h : ℕ) (qs : List Gate) → length (gate_assigns k h qs) ≡ length qs
length_gate_assigns k h [] = refl
length_gate_assigns k h (q ∷ qs) = ap suc (length_gate_assigns (suc k) (h + latch_bits q) qs)

pub length_output_assigns : (o : ℕ) (ls : List Output) → length (output_assigns o ls) ≡ length ls
length_output_assigns o [] = refl
length_output_assigns o (l ∷ ls) = ap suc (length_output_assigns (suc o) ls)

pub length_latch_registers : (k h : ℕ) (qs : List Gate) → length (latch_registers k h qs) ≡ held_bits qs
length_latch_registers k h [] = refl
length_latch_registers k h (gate.Or p q ∷ qs) = length_latch_registers (suc k) (h + 0) qs ∙ omega arith
length_latch_registers k h (gate.And p q ∷ qs) = length_latch_registers (suc k) (h + 0) qs ∙ omega arith
length_latch_registers k h (gate.Latch p q ∷ qs) = ap suc (length_latch_registers (suc k) (h + 1) qs) ∙ omega arith

-- the register of a latch takes its wire
pub latch_register_at : (k h : ℕ) (qs : List Gate) (i j : ℕ) (x y : Line) → slice_get qs i ≡ Some (gate.Latch x y) → h + j ≡ register_at h qs i →
    slice_get (latch_registers k h qs) j ≡ Some (latched (h + j) (k + i))
unfolding register_at
latch_register_at k h [] i j x y e r = absurd (cc)
latch_register_at k h (gate.Or p q ∷ qs) zero j x y e r = absurd (cc)
latch_register_at k h (gate.And p q ∷ qs) zero j x y e r = absurd (cc)
latch_register_at k h (gate.Latch p q ∷ qs) zero zero x y e r =
    let n : k ≡ k + 0 = omega arith in
    let m : h ≡ h + 0 = omega arith in
    ap (λ z. Some (latched h z)) n ∙ ap (λ z. Some (latched z (k + 0))) m
latch_register_at k h (gate.Latch p q ∷ qs) zero (suc j) x y e r = absurd (omega arith)
latch_register_at k h (gate.Or p q ∷ qs) (suc i) j x y e r =
    let n : suc k + i ≡ k + suc i = omega arith in
    let m : h + 0 + j ≡ h + j = omega arith in
    latch_register_at (suc k) (h + 0) qs i j x y e (m ∙ r) ∙ (ap (λ z. Some (latched (h + 0 + j) z)) n ∙ ap (λ z. Some (latched z (k + suc i))) m)
latch_register_at k h (gate.And p q ∷ qs) (suc i) j x y e r =
    let n : suc k + i ≡ k + suc i = omega arith in
    let m : h + 0 + j ≡ h + j = omega arith in
    latch_register_at (suc k) (h + 0) qs i j x y e (m ∙ r) ∙ (ap (λ z. Some (latched (h + 0 + j) z)) n ∙ ap (λ z. Some (latched z (k + suc i))) m)
latch_register_at k h (gate.Latch p q ∷ qs) (suc i) zero x y e r = absurd (omega (arith, register_at-le (h + 1) qs i))
latch_register_at k h (gate.Latch p q ∷ qs) (suc i) (suc j) x y e r =
    let n : suc k + i ≡ k + suc i = omega arith in
    let m : h + 1 + j ≡ h + suc j = omega arith in
    latch_register_at (suc k) (h + 1) qs i j x y e (m ∙ r) ∙ (ap (λ z. Some (latched (h + 1 + j) z)) n ∙ ap (λ z. Some (latched z (k + suc i))) m)

-- each register of a latch is that of a gate
pub record OfLatch (h : ℕ) (qs : List Gate) (j : ℕ) : Type 0 where
  pub place : ℕ
  pub left : Line
  pub right : Line
  pub there : slice_get qs place ≡ Some (gate.Latch left right)
  pub number : register_at h qs place ≡ h + j

pub latch_of : (k h : ℕ) (qs : List Gate) (j : ℕ) → j < length (latch_registers k h qs) → OfLatch h qs j
unfolding register_at
latch_of k h [] j lt = absurd (omega arith)
latch_of k h (gate.Or p q ∷ qs) j lt =
    let l = latch_of (suc k) (h + 0) qs j lt in
    let n : h + 0 + j ≡ h + j = omega arith in
    record { place = suc l.place; left = l.left; right = l.right; there = l.there; number = l.number ∙ n }
latch_of k h (gate.And p q ∷ qs) j lt =
    let l = latch_of (suc k) (h + 0) qs j lt in
    let n : h + 0 + j ≡ h + j = omega arith in
    record { place = suc l.place; left = l.left; right = l.right; there = l.there; number = l.number ∙ n }
latch_of k h (gate.Latch p q ∷ qs) zero lt =
    let n : h ≡ h + 0 = omega arith in
    record { place = 0; left = p; right = q; there = refl; number = n }
latch_of k h (gate.Latch p q ∷ qs) (suc j) lt =
    let l = latch_of (suc k) (h + 1) qs j (omega arith) in
    let n : h + 1 + j ≡ h + suc j = omega arith in
    record { place = suc l.place; left = l.left; right = l.right; there = l.there; number = l.number ∙ n }

module _ (g : Netlist) where
  abbrev pub m : Circuit
  m = tapped_module g

  abbrev pub first : ℕ
  first = length g.delays

  abbrev pub held : ℕ → ℕ
  held k = register_at first g.gates k

  pub delay_there : (n : ℕ) (d : Delay) → slice_get g.delays n ≡ Some d → slice_get m.regs n ≡ Some (delay_register n d)
  delay_there n d e =
      get_left (delay_registers 0 g.delays) (latch_registers 0 first g.gates) n _ (delay_register_at 0 g.delays n d e) ∙ ap (λ z. Some (delay_register z d)) (zero-add n)

  pub latch_there : (k : ℕ) (p q : Line) → slice_get g.gates k ≡ Some (gate.Latch p q) → slice_get m.regs (held k) ≡ Some (latched (held k) k)
  latch_there k p q e =
      let j = held k - first in
      let there : first + j ≡ held k = omega (arith, register_at-le first g.gates k) in
      let index : held k ≡ length (delay_registers 0 g.delays) + j = omega (arith, there, length_delay_registers 0 g.delays) in
      ap (slice_get m.regs) index ∙ (get_right (delay_registers 0 g.delays) (latch_registers 0 first g.gates) j ∙ (latch_register_at 0 first g.gates k j p q e there
      ∙ (ap (λ z. Some (latched z (0 + k))) there ∙ ap (λ z. Some (latched (held k) z)) (zero-add k))))

  pub realises : Realises g m held
  realises = record {
    wire = λ k q e s h. ap (λ z. get_or s.wires z false) (sym (zero-add k))
        ∙ h.each k _ (get_left (gate_assigns 0 first g.gates) (output_assigns 0 g.outputs) k _ (gate_assign_at 0 first g.gates k q e));
    out = λ o l e s h. ap (λ z. get_or s.outs z false) (sym (zero-add o))
        ∙ h.each (length (gate_assigns 0 first g.gates) + o) _ (get_right (gate_assigns 0 first g.gates) (output_assigns 0 g.outputs) o ∙ output_assign_at 0 g.outputs o l e);
    delay = delay_there;
    latch = latch_there;
  }

-- time is level in the module of gates
pub time_is_level : (g : Netlist) → IsNetlist g → TimeIsLevel g (tapped_module g)
time_is_level g ok = realised g ok (tapped_module g) (held g) (realises g)
