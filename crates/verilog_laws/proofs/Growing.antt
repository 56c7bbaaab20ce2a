-- What stays true of a module's parts as the module grows.
use Rattle.std.proofs.Common.{◌≡◌, ℕ, zero, suc, ◌<◌, ◌≤◌, Bool, List, [], ◌∷◌, ◌++◌, length, map, Option, Some, None, sym, ap, ◌∙◌, arith}
use Rattle.std.specs.Prelude.{slice_get, slice_set}
use Rattle.circuit.specs.declared.bit.Target.{Target}
use Rattle.circuit.specs.declared.bit.Target.TheVariants as target
use Rattle.circuit.specs.Circuit.{Logic, Zero, One, Input, Wire, Reg, Not, And, Or, Assignment, Circuit}
use Rattle.circuit.specs.Valid.{IsTarget, HasBit, IsInRange}
use Rattle.verilog_text.specs.Judging.{SoFar, Declared, Meaning, ClockOrReset, InputAt, OutputAt, WireAt, RegAt, found, register_of, module_of}
use Rattle.verilog_laws.specs.Sound.{HasPlace, AreNamed, NextInRange, IsRegister, IsAssign}

pub record Grows (m n : Circuit) : Type 0 where
  pub inputs : length m.inputs ≤ length n.inputs
  pub outputs : length m.outputs ≤ length n.outputs
  pub wires : length m.wires ≤ length n.wires
  pub regs : (k b : ℕ) → HasBit (slice_get m.regs k) b → HasBit (slice_get n.regs k) b

pub in_range_grows : (m n : Circuit) → Grows m n → (x : Logic) → IsInRange m x → IsInRange n x
in_range_grows m n g Zero h = tt
in_range_grows m n g One h = tt
in_range_grows m n g (Input i) h = let a = g.inputs in omega (arith, a, h)
in_range_grows m n g (Wire w) h = let a = g.wires in omega (arith, a, h)
in_range_grows m n g (Reg r k) h = g.regs r k h
in_range_grows m n g (Not x) h = in_range_grows m n g x h
in_range_grows m n g (And x y) h = (in_range_grows m n g x h.0, in_range_grows m n g y h.1)
in_range_grows m n g (Or x y) h = (in_range_grows m n g x h.0, in_range_grows m n g y h.1)

pub target_grows : (m n : Circuit) → Grows m n → (t : Target) → IsTarget m t → IsTarget n t
target_grows m n g (target.Wire w) h = let a = g.wires in omega (arith, a, h)
target_grows m n g (target.Out o) h = let a = g.outputs in omega (arith, a, h)

pub next_grows : (m n : Circuit) → Grows m n → (o : Option Logic) → NextInRange m o → NextInRange n o
next_grows m n g None h = tt
next_grows m n g (Some x) h = in_range_grows m n g x h

-- the second has what the first has, and the names mean the same
pub record Extends (x y : SoFar) : Type 0 where
  pub entries : (n : List ℕ) (m : Meaning) → found n x.entries ≡ Some m → found n y.entries ≡ Some m
  pub grows : Grows (module_of x) (module_of y)
  pub regs : length x.regs ≤ length y.regs

pub place_grows : (x y : SoFar) → Extends x y → (m : Meaning) → HasPlace x m → HasPlace y m
place_grows x y e ClockOrReset h = tt
place_grows x y e (InputAt i) h = let a = e.grows.inputs in omega (arith, a, h)
place_grows x y e (OutputAt i) h = let a = e.grows.outputs in omega (arith, a, h)
place_grows x y e (WireAt i) h = let a = e.grows.wires in omega (arith, a, h)
place_grows x y e (RegAt i) h = let a = e.regs in omega (arith, a, h)

pub named_grows : (x y : SoFar) → Extends x y → (whole : List ℕ → List ℕ) (test : List ℕ → Bool) (at : ℕ → Meaning) (names : List (List ℕ)) →
    AreNamed x whole test at names → AreNamed y whole test at names
named_grows x y e whole test at names h = λ k n s. let p = h k n s in (p.0, e.entries (whole n) (at k) p.1)

pub register_grows : (x y : SoFar) → Extends x y → (k : ℕ) (r : Declared) → IsRegister x k r → IsRegister y k r
register_grows x y e k r h = record {
  own = h.own;
  named = e.entries r.name (RegAt k) h.named;
  some_bit = h.some_bit;
  few_bits = h.few_bits;
  next = next_grows (module_of x) (module_of y) e.grows r.next h.next;
}

-- the assigns stay the same
pub assigns_grow : (x y : SoFar) → Extends x y → y.assigns ≡ x.assigns → ((k : ℕ) (a : Assignment) → slice_get x.assigns k ≡ Some a → IsAssign x k a) →
    (k : ℕ) (a : Assignment) → slice_get y.assigns k ≡ Some a → IsAssign y k a
assigns_grow x y e p h k a s =
    let back : (j : ℕ) (b : Assignment) → slice_get y.assigns j ≡ Some b → slice_get x.assigns j ≡ Some b = λ j b t. ap (λ (given : List Assignment). slice_get given j) (sym p) ∙ t in
    let forth : (j : ℕ) (b : Assignment) → slice_get x.assigns j ≡ Some b → slice_get y.assigns j ≡ Some b = λ j b t. ap (λ (given : List Assignment). slice_get given j) p ∙ t in
    let q = h k a (back k a s) in
    record {
      has_target = target_grows (module_of x) (module_of y) e.grows a.target q.has_target;
      in_range = in_range_grows (module_of x) (module_of y) e.grows a.bit q.in_range;
      once = λ j b t. q.once j b (back j b t);
      earlier = λ w t. let r = q.earlier w t in (r.0, r.1, r.2, forth r.0 r.1 r.3, r.4);
    }

-- ---- registers

pub bits_left : (rs qs : List Declared) (k b : ℕ) → HasBit (slice_get (map register_of rs) k) b → HasBit (slice_get (map register_of (rs ++ qs)) k) b
bits_left [] qs k b h = absurd h
bits_left (r ∷ rs) qs zero b h = h
bits_left (r ∷ rs) qs (suc k) b h = bits_left rs qs k b h

pub bits_set : (rs : List Declared) (i : ℕ) (r : Declared) (bit : Logic) → slice_get rs i ≡ Some r → (k b : ℕ) → HasBit (slice_get (map register_of rs) k) b →
    HasBit (slice_get (map register_of (slice_set rs i (record r { next = Some bit }))) k) b
bits_set [] i r bit e k b h = absurd h
bits_set (q ∷ rs) zero r bit e zero b h = let s : q ≡ r = cc in let w : q.width ≡ r.width = ap (λ (z : Declared). z.width) s in omega (arith, w, h)
bits_set (q ∷ rs) zero r bit e (suc k) b h = h
bits_set (q ∷ rs) (suc i) r bit e zero b h = h
bits_set (q ∷ rs) (suc i) r bit e (suc k) b h = bits_set rs i r bit e k b h

pub has_bit_of : (rs : List Declared) (k : ℕ) (r : Declared) (b : ℕ) → slice_get rs k ≡ Some r → b < r.width → HasBit (slice_get (map register_of rs) k) b
has_bit_of [] k r b e h = absurd cc
has_bit_of (q ∷ rs) zero r b e h = let s : q ≡ r = cc in let w : q.width ≡ r.width = ap (λ (z : Declared). z.width) s in omega (arith, w, h)
has_bit_of (q ∷ rs) (suc k) r b e h = has_bit_of rs k r b e h
