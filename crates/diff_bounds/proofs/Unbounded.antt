-- Where no chain was found, no bound is implied.
use Rattle.std.proofs.Common.{◌≡◌, ℕ, ◌<◌, ◌≤◌, ◌+◌, ◌*◌, subst, arith, ◌∙◌, List, [], ◌∷◌, inl, inr, ◌⊎◌, length, true}
use Rattle.std.specs.Prelude.{if◌then◌else◌, ℤ, pos, negsuc, ◌+ℤ◌, ◌-ℤ◌, ◌≤ℤ◌, nat_lt, nat_eq, ◌&&◌}
use Rattle.std.proofs.lemmas.Int.{ints}
use Rattle.std.proofs.lemmas.Bool.Decides.{nat_tests}
use Rattle.refutation.specs.declared.assumption.Assumption.{Assumption}
use Rattle.refutation.specs.Path.{Meets, MeetsAll, at, runs, sum_of}
use Rattle.diff_bounds.specs.Bounds.{Implies}
use Rattle.diff_bounds.specs.Search.{raised, IsFound, AreMet}
use Rattle.diff_bounds.proofs.Ending.{all_of, met_at}
use Rattle.diff_bounds.proofs.Least.{and_true, lt_of}

pub sum_small : (n : ℕ) (edges : List Assumption) (y : ℕ → ℕ) (i j : ℕ) (chain : List ℕ) → AreMet n edges y → runs edges i j chain ≡ true → sum_of edges chain ≤ℤ pos (1000001 * length chain)
sum_small n edges y i j [] met h = omega (arith, ints)
sum_small n edges y i j (k ∷ chain) met h =
    let p = and_true (nat_lt k (length edges) && nat_eq (at edges k).from i) _ h in
    let q = and_true (nat_lt k (length edges)) _ p.0 in
    let rest = sum_small n edges y (at edges k).to j chain met p.1 in
    let here = (met k (lt_of k (length edges) q.0)).1.1.1 in
    omega (arith, ints, rest, here)

abbrev pub farther : ℕ → ℕ → ℕ → ℕ
farther limit far d = if nat_lt d limit then d else far

near_is : (limit far d : ℕ) → d < limit → farther limit far d ≡ d
near_is limit far d h = grind (arith, nat_tests)

far_is : (limit far d : ℕ) → limit ≤ d → farther limit far d ≡ far
far_is limit far d h = grind (arith, nat_tests)

one_edge : (ya yb da db limit far : ℕ) (w : ℤ) → limit ≤ far → da ≤ limit → db ≤ limit → (pos ya -ℤ pos yb) ≤ℤ w → ((pos ya +ℤ pos da) -ℤ (pos yb +ℤ pos db)) ≤ℤ w
    → (limit ≤ db) ⊎ ((db < limit) × (da < limit)) → ((pos ya +ℤ pos (farther limit far da)) -ℤ (pos yb +ℤ pos (farther limit far db))) ≤ℤ w
one_edge ya yb da db limit far w hf ha hb m r (inr p) = rw (near_is limit far da p.1) (rw (near_is limit far db p.0) r)
one_edge ya yb da db limit far w hf ha hb m r (inl le) = rw (far_is limit far db le) (elim (under da) [
  | inl lt ↦ rw (near_is limit far da lt) (omega (arith, ints))
  | inr ge ↦ rw (far_is limit far da ge) (omega (arith, ints))
])
  where
    under : (a : ℕ) → (a < limit) ⊎ (limit ≤ a)
    under a = grind arith

pub farther_meets : (n : ℕ) (edges : List Assumption) (y d : ℕ → ℕ) (j limit far : ℕ) → AreMet n edges y → n ≤ 64 → ((k : ℕ) → k < n → y k ≤ 63000063) → j < n → 130000000 ≤ limit → limit ≤ far
    → IsFound n edges y d j limit → MeetsAll (λ k. pos (y k) +ℤ pos (farther limit far (d k))) edges
farther_meets n edges y d j limit far met few small hj big hf f = all_of (λ x. pos (y x) +ℤ pos (farther limit far (d x))) edges (λ e h. one e h (under (d (at edges e).to)))
  where
    under : (a : ℕ) → (a < limit) ⊎ (limit ≤ a)
    under a = grind arith

    one : (e : ℕ) → e < length edges → (d (at edges e).to < limit) ⊎ (limit ≤ d (at edges e).to) → Meets (λ k. pos (y k) +ℤ pos (farther limit far (d k))) (at edges e)
    one e h split =
        let a = (at edges e).from in let b = (at edges e).to in let m = met e h in
        let r : (raised y d a -ℤ raised y d b) ≤ℤ (at edges e).bound = met_at (raised y d) edges e h f.meets in
        one_edge (y a) (y b) (d a) (d b) limit far (at edges e).bound hf (f.most a m.0) (f.most b m.1.0) m.1.1.0 r (elim split [
          | inr le ↦ inl le
          | inl lt ↦ elim (f.shown b m.1.0) [
            | inl le ↦ inl le
            | inr c ↦ inr (lt, (let s = sum_small n edges y b j c.chain met c.runs in let i = c.sum in let z = f.here in let sh = c.short in let yj = small j hj in let w = m.1.1.1 in omega (arith, ints, s, i, z, sh, yj, w, r, big, few)))
          ]
        ])

pub least_none : (n : ℕ) (edges : List Assumption) (y d : ℕ → ℕ) (i j limit : ℕ) → AreMet n edges y → n ≤ 64 → ((k : ℕ) → k < n → y k ≤ 63000063) → j < n → 130000000 ≤ limit
    → IsFound n edges y d j limit → limit ≤ d i → (w : ℤ) → Implies edges i j w → ⊥
least_none n edges y d i j limit met few small hj big f le w all = no w (here w)
  where
    spare : ℤ → ℕ
    spare (pos m) = ((limit + m) + y j) + 1
    spare (negsuc m) = limit + y j

    enough : (w : ℤ) → limit ≤ spare w
    enough (pos m) = omega arith
    enough (negsuc m) = omega arith

    far_j : (far : ℕ) → farther limit far (d j) ≡ 0
    far_j far = let z = f.here in near_is limit far (d j) (omega (arith, z, big)) ∙ z

    here : (v : ℤ) → ((pos (y i) +ℤ pos (spare v)) -ℤ (pos (y j) +ℤ pos 0)) ≤ℤ w
    here v = subst (λ (b : ℕ). ((pos (y i) +ℤ pos (spare v)) -ℤ (pos (y j) +ℤ pos b)) ≤ℤ w) (far_j (spare v))
        (subst (λ (a : ℕ). ((pos (y i) +ℤ pos a) -ℤ (pos (y j) +ℤ pos (farther limit (spare v) (d j)))) ≤ℤ w) (far_is limit (spare v) (d i) le)
        (all (λ k. pos (y k) +ℤ pos (farther limit (spare v) (d k))) (farther_meets n edges y d j limit (spare v) met few small hj big (enough v) f)))

    no : (v : ℤ) → ((pos (y i) +ℤ pos (spare v)) -ℤ (pos (y j) +ℤ pos 0)) ≤ℤ v → ⊥
    no (pos m) h = omega (arith, ints, h)
    no (negsuc m) h = omega (arith, ints, h)
