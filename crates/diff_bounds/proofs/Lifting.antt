-- A search that doesn't settle what is too far away for a chain from the input asked for: what it has found by then.
use Rattle.std.proofs.Common.{◌≡◌, ℕ, ◌<◌, ◌≤◌, ◌+◌, refl, ap, subst, arith, sym, List, inl, inr, ◌⊎◌, length, get_or}
use Rattle.std.specs.Prelude.{if◌then◌else◌, ℤ, pos, ◌+ℤ◌, ◌-ℤ◌, ◌≤ℤ◌, nat_lt, nat_eq}
use Rattle.std.proofs.lemmas.Int.{ints}
use Rattle.std.proofs.lemmas.Bool.Decides.{nat_tests}
use Rattle.refutation.specs.declared.assumption.Assumption.{Assumption}
use Rattle.refutation.specs.Path.{Meets, MeetsAll, at}
use Rattle.diff_bounds.specs.declared.search.Search.{Search}
use Rattle.diff_bounds.specs.Bounds.{Implies}
use Rattle.diff_bounds.specs.Search.{of, raised, AreMet, IsHeld, IsLast, IsLead, IsRunning, IsBounds, IsSearched}
use Rattle.diff_bounds.proofs.Held.{all_held}
use Rattle.diff_bounds.proofs.Early.{all_settled}
use Rattle.diff_bounds.proofs.Kept.{are_met}

under : (a b : ℕ) → (a < b) ⊎ (b ≤ a)
under a b = grind arith

-- d, but at most the stop for others than the input asked for
abbrev lifted : ℕ → ℕ → (ℕ → ℕ) → ℕ → ℕ
lifted stop asked d l = if nat_eq l asked then d l else (if nat_lt (d l) stop then d l else stop)

lifted_low : (stop asked l d : ℕ) → d < stop → (if nat_eq l asked then d else (if nat_lt d stop then d else stop)) ≡ d
lifted_low stop asked l d h = grind (arith, nat_tests)

lifted_high : (stop asked l d : ℕ) → stop ≤ d → stop ≤ (if nat_eq l asked then d else (if nat_lt d stop then d else stop))
lifted_high stop asked l d h = grind (arith, nat_tests)

lifted_le : (stop asked l d : ℕ) → (if nat_eq l asked then d else (if nat_lt d stop then d else stop)) ≤ d
lifted_le stop asked l d = grind (arith, nat_tests)

lifted_asked : (stop asked l d : ℕ) → l ≡ asked → (if nat_eq l asked then d else (if nat_lt d stop then d else stop)) ≡ d
lifted_asked stop asked l d q = grind (arith, nat_tests)

lifted_other : (stop asked l d : ℕ) → (l ≡ asked) ⊎ ((if nat_eq l asked then d else (if nat_lt d stop then d else stop)) ≤ stop)
lifted_other stop asked l d = grind (arith, nat_tests)

module _ (n : ℕ) (edges : List Assumption) (y d v t : ℕ → ℕ) (turn target limit stop k asked lead : ℕ) (met : AreMet n edges y) (r : IsRunning n edges y d v t turn target limit k 0)
    (first : IsLead edges y asked lead) (near : limit ≤ stop + lead) (all : (l : ℕ) → l < n → (t l < n) ⊎ (stop ≤ d l)) where
  from_asked : (f : ℕ) → f < length edges → (at edges f).from ≡ asked → stop ≤ d (at edges f).to → Meets (raised y (lifted stop asked d)) (at edges f) ⊎ IsHeld edges f
  from_asked f h q le = elim (first f h q) [
    | inr held ↦ inr held
    | inl most ↦
        let a = lifted_le stop asked (at edges f).from (d (at edges f).from) in
        let b = lifted_high stop asked (at edges f).to (d (at edges f).to) le in
        let c = r.most (at edges f).from (met f h).0 in
        let e : y (at edges f).from ≡ y asked = ap y q in inl (omega (arith, ints, most, a, b, c, e, near))
  ]

  from_other : (f : ℕ) → f < length edges → lifted stop asked d (at edges f).from ≤ stop → stop ≤ d (at edges f).to → Meets (raised y (lifted stop asked d)) (at edges f)
  from_other f h a le = let b = lifted_high stop asked (at edges f).to (d (at edges f).to) le in let m = (met f h).1.1.0 in omega (arith, ints, a, b, m)

  to_settled : (f : ℕ) → f < length edges → d (at edges f).to < stop → Meets (raised y d) (at edges f) → Meets (raised y (lifted stop asked d)) (at edges f)
  to_settled f h lt m =
      let a = lifted_le stop asked (at edges f).from (d (at edges f).from) in
      let b = lifted_low stop asked (at edges f).to (d (at edges f).to) lt in omega (arith, ints, a, b, m)

  closed_to : (f : ℕ) → f < length edges → d (at edges f).to < stop → t (at edges f).to < n → Meets (raised y (lifted stop asked d)) (at edges f) ⊎ IsHeld edges f
  closed_to f h lt settled = elim (r.closed f h) [
    | inl u ↦ absurd (omega (arith, u, settled))
    | inr (inl p) ↦ let lt = p.1 in absurd (omega (arith, lt))
    | inr (inr (inl m)) ↦ inl (to_settled f h lt m)
    | inr (inr (inr held)) ↦ inr held
  ]

  one : (f : ℕ) → f < length edges → Meets (raised y (lifted stop asked d)) (at edges f) ⊎ IsHeld edges f
  one f h = elim (under (d (at edges f).to) stop) [
    | inl lt ↦ elim (all (at edges f).to (met f h).1.0) [ inl settled ↦ closed_to f h lt settled | inr le ↦ absurd (omega (arith, lt, le)) ]
    | inr le ↦ elim (lifted_other stop asked (at edges f).from (d (at edges f).from)) [ inl q ↦ from_asked f h q le | inr a ↦ inl (from_other f h a le) ]
  ]

  -- raised so, the kept numbers are a solution
  pub lifted_meets : MeetsAll (raised y (lifted stop asked d)) edges
  lifted_meets = all_held (raised y (lifted stop asked d)) edges one

  -- which breaks an assumption that leaves no room for the limit
  pub lifted_breaks : (w : ℤ) → limit ≤ d asked → ((pos (y asked) -ℤ pos (y target)) +ℤ pos limit) ≡ (w +ℤ pos 1) → Implies edges asked target w → ⊥
  lifted_breaks w far is implied =
      let a = implied (raised y (lifted stop asked d)) lifted_meets in
      let i = lifted_asked stop asked asked (d asked) refl in
      let j = lifted_le stop asked target (d target) in
      let z = r.here in omega (arith, ints, a, i, j, z, is, far)

-- where no chain was found, the assumption isn't implied
pub not_held : (n : ℕ) (edges : List Assumption) (ys : List ℕ) (s : Search) (i j room stop enough lead : ℕ) (w : ℤ) → IsBounds n edges ys → IsSearched n edges ys s j room stop i enough → i < n
    → IsLead edges (of ys) i lead → stop ≤ room → room ≤ stop + lead → enough ≤ room → room ≤ get_or s.distances.items i 0
    → ((pos (get_or ys i 0) -ℤ pos (get_or ys j 0)) +ℤ pos room) ≡ (w +ℤ pos 1) → Implies edges i j w → ⊥
not_held n edges ys s i j room stop enough lead w b f hi first early near few far is =
    let r = f.running in
    lifted_breaks n edges (of ys) (of s.distances.items) (of s.vias.items) (of s.turns.items) r.0 j room stop r.1.0 i lead (are_met n edges ys b) r.1.1 first near
    (all_settled n edges (of ys) (of s.distances.items) (of s.vias.items) (of s.turns.items) r.0 j room r.1.0 i (are_met n edges ys b) r.1.1 hi stop enough early few f.ended far)
    w far is

-- one assumption more that begins at k is taken into the lead
pub lead_more : (edges : List Assumption) (y : ℕ → ℕ) (k e h lead less slack : ℕ) → e < length edges → (at edges e).from ≡ k → IsLast (λ a. a.from) edges k e h
    → less ≤ lead → less ≤ slack → (pos (y (at edges e).from) +ℤ pos slack) ≡ ((at edges e).bound +ℤ pos (y (at edges e).to))
    → ((f : ℕ) → e < f → f < length edges → (at edges f).from ≡ k → (((pos (y k) +ℤ pos lead) -ℤ pos (y (at edges f).to)) ≤ℤ (at edges f).bound) ⊎ IsHeld edges f)
    → (f : ℕ) → h ≤ f → f < length edges → (at edges f).from ≡ k → (((pos (y k) +ℤ pos less) -ℤ pos (y (at edges f).to)) ≤ℤ (at edges f).bound) ⊎ IsHeld edges f
lead_more edges y k e h lead less slack he from last le ls is done f hf lt q = elim (place f) [
  | inl before ↦ inr (last.others f hf before q)
  | inr (inr after) ↦ elim (done f after lt q) [ inl m ↦ inl (omega (arith, ints, m, le)) | inr held ↦ inr held ]
  | inr (inl same) ↦ inl (subst (λ (f : ℕ). ((pos (y k) +ℤ pos less) -ℤ pos (y (at edges f).to)) ≤ℤ (at edges f).bound) (sym same)
      (let z : y (at edges e).from ≡ y k = ap y from in omega (arith, ints, is, ls, z)))
]
  where
    place : (f : ℕ) → (f < e) ⊎ ((f ≡ e) ⊎ (e < f))
    place f = grind arith
