-- Pressing breaks no assumption.
use Rattle.std.proofs.Common.{◌≡◌, ℕ, zero, suc, ◌<◌, ◌≤◌, ◌+◌, ◌-◌, ap, arith, ◌∙◌, List, [], ◌∷◌, inl, inr, ◌⊎◌, length, get_or}
use Rattle.std.specs.Prelude.{ℤ, pos, negsuc, ◌-ℤ◌, ◌≤ℤ◌, nat_lt, if◌then◌else◌}
use Rattle.std.proofs.lemmas.Int.{ints}
use Rattle.std.proofs.lemmas.Bool.Decides.{nat_tests}
use Rattle.refutation.specs.declared.assumption.Assumption.{Assumption}
use Rattle.refutation.specs.Path.{Meets, MeetsAll}
use Rattle.diff_bounds.specs.Bounds.{integers}
use Rattle.diff_bounds.specs.Pressing.{IsNear, AreNear, pressed, above}

-- each number is at the floor or below, or so far above it that by can be taken off and a gap of 1,000,001 is left
abbrev pub HasGap : ℕ → ℕ → List ℕ → Type 0
HasGap floor by ys = (k : ℕ) → k < length ys → (get_or ys k 0 ≤ floor) ⊎ ((floor + 1000001) + by ≤ get_or ys k 0)

pub pressed_low : (floor by y : ℕ) → y ≤ floor → pressed floor by y ≡ y
pressed_low floor by y h = grind (arith, nat_tests)

pub pressed_high : (floor by y : ℕ) → floor < y → pressed floor by y ≡ y - by
pressed_high floor by y h = grind (arith, nat_tests)

one_pair : (floor by u v : ℕ) (w : ℤ) → (u ≤ floor) ⊎ ((floor + 1000001) + by ≤ u) → (v ≤ floor) ⊎ ((floor + 1000001) + by ≤ v)
    → negsuc 1000000 ≤ℤ w → (pos u -ℤ pos v) ≤ℤ w → (pos (pressed floor by u) -ℤ pos (pressed floor by v)) ≤ℤ w
one_pair floor by u v w (inl a) (inl b) low h = rw (pressed_low floor by u a) (rw (pressed_low floor by v b) h)
one_pair floor by u v w (inl a) (inr b) low h = rw (pressed_low floor by u a) (rw (pressed_high floor by v (omega arith)) (omega (arith, ints)))
one_pair floor by u v w (inr a) (inl b) low h = rw (pressed_high floor by u (omega arith)) (rw (pressed_low floor by v b) (omega (arith, ints)))
one_pair floor by u v w (inr a) (inr b) low h = rw (pressed_high floor by u (omega arith)) (rw (pressed_high floor by v (omega arith)) (omega (arith, ints)))

-- ys and zs have the same length, and each number of zs is f of the one at its place in ys
pub record IsEach (f : ℕ → ℕ) (ys zs : List ℕ) : Type 0 where
  pub long : length zs ≡ length ys
  pub is : (k : ℕ) → k < length ys → get_or zs k 0 ≡ f (get_or ys k 0)

press_one : (floor by : ℕ) (ys zs : List ℕ) (a : Assumption) → HasGap floor by ys → IsEach (pressed floor by) ys zs → IsNear (length ys) a
    → Meets (integers ys) a → Meets (integers zs) a
press_one floor by ys zs a gap each near m =
    rw (each.is a.from near.from) (rw (each.is a.to near.to)
    (one_pair floor by (get_or ys a.from 0) (get_or ys a.to 0) a.bound (gap a.from near.from) (gap a.to near.to) near.low m))

pub press_all : (floor by : ℕ) (ys zs : List ℕ) (edges : List Assumption) → HasGap floor by ys → IsEach (pressed floor by) ys zs → AreNear (length ys) edges
    → MeetsAll (integers ys) edges → MeetsAll (integers zs) edges
press_all floor by ys zs [] gap each near m = tt
press_all floor by ys zs (a ∷ edges) gap each near m = (press_one floor by ys zs a gap each near.0 m.0, press_all floor by ys zs edges gap each near.1 m.1)

-- the same taken off each number breaks nothing
lower_one : (by : ℕ) (ys zs : List ℕ) (a : Assumption) → ((k : ℕ) → k < length ys → by ≤ get_or ys k 0) → IsEach (λ y. y - by) ys zs → IsNear (length ys) a
    → Meets (integers ys) a → Meets (integers zs) a
lower_one by ys zs a room each near m =
    let u = room a.from near.from in let v = room a.to near.to in
    rw (each.is a.from near.from) (rw (each.is a.to near.to) (omega (arith, ints, m, u, v)))

pub lower_every : (by : ℕ) (ys zs : List ℕ) (edges : List Assumption) → ((k : ℕ) → k < length ys → by ≤ get_or ys k 0) → IsEach (λ y. y - by) ys zs → AreNear (length ys) edges
    → MeetsAll (integers ys) edges → MeetsAll (integers zs) edges
lower_every by ys zs [] room each near m = tt
lower_every by ys zs (a ∷ edges) room each near m = (lower_one by ys zs a room each near.0 m.0, lower_every by ys zs edges room each near.1 m.1)

-- what counts one number
abbrev pub counted : ℕ → ℕ → ℕ
counted floor y = if nat_lt floor y then 1 else 0

counted_high : (floor y : ℕ) → floor < y → counted floor y ≡ 1
counted_high floor y h = grind (arith, nat_tests)

counted_low : (floor y : ℕ) → y ≤ floor → counted floor y ≡ 0
counted_low floor y h = grind (arith, nat_tests)

counted_most : (floor y : ℕ) → counted floor y ≤ 1
counted_most floor y = grind (arith, nat_tests)

pub above_most : (floor : ℕ) (ys : List ℕ) → above floor ys ≤ length ys
above_most floor [] = omega arith
above_most floor (y ∷ ys) = let a = above_most floor ys in let b = counted_most floor y in omega (arith, a, b)

-- where a number is at the floor or below, not all are counted
pub above_few : (floor : ℕ) (ys : List ℕ) (k : ℕ) → k < length ys → get_or ys k 0 ≤ floor → above floor ys + 1 ≤ length ys
above_few floor [] k h low = absurd (omega arith)
above_few floor (y ∷ ys) zero h low = rw (counted_low floor y low) (let a = above_most floor ys in omega (arith, a))
above_few floor (y ∷ ys) (suc k) h low = let a = above_few floor ys k (omega arith) low in let b = counted_most floor y in omega (arith, a, b)

one_fewer : (floor by next y : ℕ) → floor < next → floor + by ≤ next → (y ≤ floor) ⊎ (next ≤ y) → counted (next - by) (pressed floor by y) ≤ counted floor y
one_fewer floor by next y lt room (inl a) = rw (pressed_low floor by y a) (rw (counted_low (next - by) y (omega arith)) (omega arith))
one_fewer floor by next y lt room (inr a) = rw (counted_high floor y (omega arith)) (counted_most (next - by) (pressed floor by y))

tail_each : (f : ℕ → ℕ) (y z : ℕ) (ys zs : List ℕ) → IsEach f (y ∷ ys) (z ∷ zs) → IsEach f ys zs
tail_each f y z ys zs each = let long = each.long in record { long = omega (arith, long); is = λ k h. each.is (suc k) (omega arith) }

fewer_all : (floor by next : ℕ) (ys zs : List ℕ) → floor < next → floor + by ≤ next → ((k : ℕ) → k < length ys → (get_or ys k 0 ≤ floor) ⊎ (next ≤ get_or ys k 0))
    → IsEach (pressed floor by) ys zs → above (next - by) zs ≤ above floor ys
fewer_all floor by next [] [] lt room all each = omega arith
fewer_all floor by next [] (z ∷ zs) lt room all each = let long = each.long in absurd (omega (arith, long))
fewer_all floor by next (y ∷ ys) [] lt room all each = let long = each.long in absurd (omega (arith, long))
fewer_all floor by next (y ∷ ys) (z ∷ zs) lt room all each =
    let here : counted (next - by) z ≤ counted floor y = rw (each.is 0 (omega arith)) (one_fewer floor by next y lt room (all 0 (omega arith))) in
    let rest = fewer_all floor by next ys zs lt room (λ k h. all (suc k) (omega arith)) (tail_each (pressed floor by) y z ys zs each) in
    omega (arith, here, rest)

pub fewer : (floor by next : ℕ) (ys zs : List ℕ) (k : ℕ) → floor < next → floor + by ≤ next → k < length ys → get_or ys k 0 ≡ next
    → ((k : ℕ) → k < length ys → (get_or ys k 0 ≤ floor) ⊎ (next ≤ get_or ys k 0)) → IsEach (pressed floor by) ys zs → above (next - by) zs + 1 ≤ above floor ys
fewer floor by next [] zs k lt room h at all each = absurd (omega arith)
fewer floor by next (y ∷ ys) [] k lt room h at all each = let long = each.long in absurd (omega (arith, long))
fewer floor by next (y ∷ ys) (z ∷ zs) zero lt room h at all each =
    let rest = fewer_all floor by next ys zs lt room (λ k h. all (suc k) (omega arith)) (tail_each (pressed floor by) y z ys zs each) in
    let z_is : z ≡ next - by = each.is 0 (omega arith) ∙ pressed_high floor by y (omega (arith, at)) ∙ ap (λ y. y - by) at in
    let here : counted (next - by) z ≡ 0 = counted_low (next - by) z (omega (arith, z_is)) in
    let there : counted floor y ≡ 1 = counted_high floor y (omega (arith, at)) in
    omega (arith, here, there, rest)
fewer floor by next (y ∷ ys) (z ∷ zs) (suc k) lt room h at all each =
    let here : counted (next - by) z ≤ counted floor y = rw (each.is 0 (omega arith)) (one_fewer floor by next y lt room (all 0 (omega arith))) in
    let rest = fewer floor by next ys zs k lt room (omega arith) at (λ k h. all (suc k) (omega arith)) (tail_each (pressed floor by) y z ys zs each) in
    omega (arith, here, rest)

pub press_none : (floor : ℕ) (ys zs : List ℕ) (edges : List Assumption) → IsEach (pressed floor 0) ys zs → AreNear (length ys) edges
    → MeetsAll (integers ys) edges → MeetsAll (integers zs) edges
press_none floor ys zs edges each near m = lower_every 0 ys zs edges (λ k h. omega arith) (record { long = each.long; is = λ k h. each.is k h ∙ same floor (get_or ys k 0) }) near m
  where
    same : (floor y : ℕ) → pressed floor 0 y ≡ y - 0
    same floor y = grind (arith, nat_tests)

-- taking off what a gap has over 1,000,001 keeps each solution
pub press_by : (floor by next : ℕ) (ys zs : List ℕ) (edges : List Assumption) → by ≡ (next - floor) - 1000001 → floor < next
    → ((k : ℕ) → k < length ys → (get_or ys k 0 ≤ floor) ⊎ (next ≤ get_or ys k 0)) → IsEach (pressed floor by) ys zs → AreNear (length ys) edges
    → MeetsAll (integers ys) edges → MeetsAll (integers zs) edges
press_by floor zero next ys zs edges is lt all each near m = press_none floor ys zs edges each near m
press_by floor (suc by) next ys zs edges is lt all each near m = press_all floor (suc by) ys zs edges (λ k h. far (get_or ys k 0) (all k h)) each near m
  where
    far : (y : ℕ) → (y ≤ floor) ⊎ (next ≤ y) → (y ≤ floor) ⊎ ((floor + 1000001) + suc by ≤ y)
    far y (inl a) = inl a
    far y (inr a) = inr (omega (arith, is))
