-- How many assigns and registers a valid module has at most.
use Rattle.std.proofs.Common.{◌≡◌, ℕ, suc, ◌+◌, ◌<◌, ◌≤◌, true, false, eqb, List, [], ◌∷◌, length, map, get_or, sum_by, refl, ap, inl, inr, arith, Some}
use Rattle.std.specs.Prelude.{slice_get}
use Rattle.std.specs.List.{IsDistinct, AllByRecursion, list_any}
use Rattle.std.proofs.lemmas.Bool.{eqb-true, ne_eqb, or_cases, both_ways}
use Rattle.std.proofs.lemmas.Map.Steps.{length-le_from_distinct_below}
use Rattle.std.proofs.lemmas.List.{length-map}
use Rattle.std.proofs.lemmas.List.Sums.{sum_by-cons}
use Rattle.circuit.specs.declared.bit.Target.{Target}
use Rattle.circuit.specs.declared.bit.Target.TheVariants as target
use Rattle.circuit.specs.Circuit.{Assignment, Register, Circuit}
use Rattle.circuit.specs.Valid.{IsTarget, IsOrdered}

-- the wires from 0 on, then the outputs
number : ℕ → Target → ℕ
number wires (target.Wire w) = w
number wires (target.Out o) = wires + o

one_number : (m : Circuit) (s t : Target) → IsTarget m s → IsTarget m t → number (length m.wires) s ≡ number (length m.wires) t → s ≡ t
unfolding number
one_number m (target.Wire v) (target.Wire w) a b e = ap target.Wire e
one_number m (target.Wire v) (target.Out o) a b e = absurd (omega arith)
one_number m (target.Out o) (target.Wire w) a b e = absurd (omega arith)
one_number m (target.Out o) (target.Out p) a b e = let q : o ≡ p = omega arith in ap target.Out q

number_below : (m : Circuit) (t : Target) → IsTarget m t → number (length m.wires) t < length m.wires + length m.outputs
unfolding number
number_below m (target.Wire w) a = omega arith
number_below m (target.Out o) a = omega arith

abbrev place_of : Circuit → Assignment → ℕ
place_of m a = number (length m.wires) a.target

apart : (m : Circuit) (a : Assignment) (tail : List Assignment) → ((j : ℕ) (b : Assignment) → slice_get tail j ≡ Some b → place_of m a ≡ place_of m b → ⊥) →
    AllByRecursion (λ y. eqb (place_of m a) y ≡ false) (map (place_of m) tail)
apart m a [] h = tt
apart m a (b ∷ bs) h = (ne_eqb _ _ (h 0 b refl), apart m a bs (λ j c. h (suc j) c))

distinct : (m : Circuit) (tail : List Assignment) → ((j : ℕ) (b : Assignment) → slice_get tail j ≡ Some b → IsTarget m b.target) →
    ((i j : ℕ) (a b : Assignment) → slice_get tail i ≡ Some a → slice_get tail j ≡ Some b → a.target ≡ b.target → i ≡ j) → IsDistinct eqb (map (place_of m) tail)
unfolding IsDistinct
distinct m [] targets once = tt
distinct m (a ∷ tail) targets once = (
  apart m a tail (λ j b there e. let z : 0 ≡ suc j = once 0 (suc j) a b refl there (one_number m a.target b.target (targets 0 a refl) (targets (suc j) b there) e) in absurd (omega arith)),
  distinct m tail (λ j. targets (suc j)) (λ i j a b p q e. let z : suc i ≡ suc j = once (suc i) (suc j) a b p q e in omega arith),
)

below : (m : Circuit) (tail : List Assignment) → ((j : ℕ) (b : Assignment) → slice_get tail j ≡ Some b → IsTarget m b.target) →
    (q : ℕ) → list_any (eqb q) (map (place_of m) tail) ≡ true → q < length m.wires + length m.outputs
below m [] targets q h = absurd (both_ways _ refl h)
below m (a ∷ tail) targets q h = elim (or_cases (eqb q (place_of m a)) (list_any (eqb q) (map (place_of m) tail)) h) [
  | inl e ↦ let lt = number_below m a.target (targets 0 a refl) in let same = eqb-true q (place_of m a) e in omega arith
  | inr e ↦ below m tail (λ j. targets (suc j)) q e
]

pub few_assigns : (m : Circuit) → IsOrdered m → length m.assigns ≤ length m.wires + length m.outputs
few_assigns m ord =
    let e : length (map (place_of m) m.assigns) ≡ length m.assigns = length-map m.assigns (place_of m) in
    let le = length-le_from_distinct_below (map (place_of m) m.assigns) (length m.wires + length m.outputs) (distinct m m.assigns ord.targets ord.once) (below m m.assigns ord.targets) in
    omega arith

pub few_regs : (regs : List Register) → ((k : ℕ) (d : Register) → k < length regs → 1 ≤ (get_or regs k d).width) → length regs ≤ sum_by (λ (q : Register). q.width) regs
few_regs [] h = omega arith
few_regs (q ∷ regs) h =
    let rest = few_regs regs (λ k d lt. h (suc k) d (omega arith)) in
    let one : 1 ≤ q.width = h 0 q (omega arith) in
    let s = sum_by-cons (λ (p : Register). p.width) q regs in
    omega arith
