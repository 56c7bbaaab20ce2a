-- A search that ends early: what it has found by then.
use Rattle.std.proofs.Common.{◌≡◌, ℕ, ◌<◌, ◌≤◌, arith, List, inl, inr, ◌⊎◌, length, get_or, Some}
use Rattle.std.specs.Prelude.{if◌then◌else◌, ℤ, pos, ◌+ℤ◌, ◌-ℤ◌, ◌≤ℤ◌, nat_lt}
use Rattle.std.proofs.lemmas.Int.{ints}
use Rattle.std.proofs.lemmas.Bool.Decides.{nat_tests}
use Rattle.refutation.specs.declared.assumption.Assumption.{Assumption}
use Rattle.refutation.specs.Path.{Meets, MeetsAll, at}
use Rattle.diff_bounds.specs.declared.search.Search.{Search}
use Rattle.diff_bounds.specs.Bounds.{IsLeast}
use Rattle.diff_bounds.specs.Search.{of, raised, AreMet, HasChain, IsFound, IsEnded, IsRunning, IsBounds, IsSearched}
use Rattle.diff_bounds.proofs.Held.{all_held}
use Rattle.diff_bounds.proofs.Ending.{found, walk}
use Rattle.diff_bounds.proofs.Least.{chain_shows}
use Rattle.diff_bounds.proofs.Kept.{are_met}

under : (a b : ℕ) → (a < b) ⊎ (b ≤ a)
under a b = grind arith

module _ (n : ℕ) (edges : List Assumption) (y d v t : ℕ → ℕ) (turn target limit k asked : ℕ) (met : AreMet n edges y) (r : IsRunning n edges y d v t turn target limit k 0) (inside : asked < n) where
  -- once the input asked for is settled, no other that is not is nearer
  beyond : t asked < n → (l : ℕ) → l < n → (t l < n) ⊎ (d asked ≤ d l)
  beyond settled l h = elim (under (t l) n) [ inl lt ↦ inl lt | inr le ↦ inr (r.order asked l inside h settled le) ]

  -- where it is not below the limit, each input that is nearer than the stop is settled
  pub all_settled : (stop enough : ℕ) → stop ≤ limit → enough ≤ limit → IsEnded n d t stop asked enough → limit ≤ d asked → (l : ℕ) → l < n → (t l < n) ⊎ (stop ≤ d l)
  all_settled stop enough early few (inl lt) far l h = absurd (omega (arith, lt, far, few))
  all_settled stop enough early few (inr (inl settled)) far l h = elim (beyond settled l h) [ inl lt ↦ inl lt | inr le ↦ inr (omega (arith, far, le, early)) ]
  all_settled stop enough early few (inr (inr all)) far l h = all l h

  -- where it is nearer than the stop, it is settled
  pub asked_settled : (stop enough : ℕ) → enough ≡ 0 → IsEnded n d t stop asked enough → d asked < stop → t asked < n
  asked_settled stop enough none (inl lt) low = absurd (omega (arith, lt, none))
  asked_settled stop enough none (inr (inl settled)) low = settled
  asked_settled stop enough none (inr (inr all)) low = elim (all asked inside) [ inl lt ↦ lt | inr le ↦ absurd (omega (arith, low, le)) ]

  pub chain_of_asked : t asked < n → d asked < limit → HasChain n edges asked target (raised y d asked -ℤ raised y d target)
  chain_of_asked settled low =
      let w = walk n edges y d v t turn target limit k 0 (t asked) asked met r inside low (omega arith) in
      record { chain = w.0; runs = w.1; sum = w.2; short = let z = w.3 in omega (arith, settled, z) }

-- d, but at most the limit
abbrev cut : ℕ → ℕ → ℕ
cut most d = if nat_lt d most then d else most

cut_low : (most d : ℕ) → d < most → cut most d ≡ d
cut_low most d h = grind (arith, nat_tests)

cut_high : (most d : ℕ) → most ≤ d → cut most d ≡ most
cut_high most d h = grind (arith, nat_tests)

cut_most : (most d : ℕ) → cut most d ≤ most
cut_most most d = grind (arith, nat_tests)

cut_le : (most d : ℕ) → cut most d ≤ d
cut_le most d = grind (arith, nat_tests)

one_cut : (ya yb da db most : ℕ) (w : ℤ) → (pos ya -ℤ pos yb) ≤ℤ w → (((pos ya +ℤ pos da) -ℤ (pos yb +ℤ pos db)) ≤ℤ w) ⊎ (most ≤ db)
    → ((pos ya +ℤ pos (cut most da)) -ℤ (pos yb +ℤ pos (cut most db))) ≤ℤ w
one_cut ya yb da db most w m r = elim (under db most) [
  | inr le ↦ let b = cut_high most db le in let a = cut_most most da in omega (arith, ints, m, a, b)
  | inl lt ↦ elim r [
    | inr le ↦ absurd (omega (arith, le, lt))
    | inl met ↦ let b = cut_low most db lt in let a = cut_le most da in omega (arith, ints, met, a, b)
  ]
]

module _ (n : ℕ) (edges : List Assumption) (y d v t : ℕ → ℕ) (turn target limit k asked : ℕ) (met : AreMet n edges y) (r : IsRunning n edges y d v t turn target limit k 0) (inside : asked < n) where
  -- raised by no more than the input asked for, the kept numbers are a solution
  cut_meets : t asked < n → MeetsAll (raised y (λ l. cut (d asked) (d l))) edges
  cut_meets settled = all_held (raised y (λ l. cut (d asked) (d l))) edges (λ f h. elim (r.closed f h) [
    | inl u ↦ inl (one f h (inr (r.order asked (at edges f).to inside (met f h).1.0 settled u)))
    | inr (inl p) ↦ let lt = p.1 in absurd (omega (arith, lt))
    | inr (inr (inl m)) ↦ inl (one f h (inl m))
    | inr (inr (inr held)) ↦ inr held
  ])
    where
      one : (f : ℕ) → f < length edges → Meets (raised y d) (at edges f) ⊎ (d asked ≤ d (at edges f).to) → Meets (raised y (λ l. cut (d asked) (d l))) (at edges f)
      one f h m = one_cut (y (at edges f).from) (y (at edges f).to) (d (at edges f).from) (d (at edges f).to) (d asked) (at edges f).bound (met f h).1.1.0 m

  -- a chain that was found is as long as the least bound that is implied
  pub least_cut : t asked < n → HasChain n edges asked target (raised y d asked -ℤ raised y d target) → IsLeast edges asked target (Some (raised y d asked -ℤ raised y d target))
  least_cut settled h = (
    (λ x m. let a = chain_shows x edges asked target h.chain m h.runs in let s = h.sum in omega (arith, ints, a, s)),
    (λ w all.
        let a = all (raised y (λ l. cut (d asked) (d l))) (cut_meets settled) in
        let i = cut_high (d asked) (d asked) (omega arith) in
        let j = cut_le (d asked) (d target) in omega (arith, ints, a, i, j)),
  )

module _ (n : ℕ) (edges : List Assumption) (ys : List ℕ) (s : Search) (target limit stop asked enough : ℕ) (b : IsBounds n edges ys) (f : IsSearched n edges ys s target limit stop asked enough) (inside : asked < n) where
  pub found_all : stop ≡ limit → enough ≤ limit → limit ≤ get_or s.distances.items asked 0 → IsFound n edges (of ys) (of s.distances.items) target limit
  found_all whole few far =
      let r = f.running in
      let all = all_settled n edges (of ys) (of s.distances.items) (of s.vias.items) (of s.turns.items) r.0 target limit r.1.0 asked (are_met n edges ys b) r.1.1 inside stop enough (omega (arith, whole)) few f.ended far in
      found n edges (of ys) (of s.distances.items) (of s.vias.items) (of s.turns.items) r.0 target limit r.1.0 (are_met n edges ys b) r.1.1
      (λ l h. elim (all l h) [ inl lt ↦ inl lt | inr le ↦ inr (omega (arith, whole, le)) ])

  pub settled_asked : stop ≡ limit → enough ≡ 0 → get_or s.distances.items asked 0 < limit → get_or s.turns.items asked 0 < n
  settled_asked whole none low =
      let r = f.running in
      asked_settled n edges (of ys) (of s.distances.items) (of s.vias.items) (of s.turns.items) r.0 target limit r.1.0 asked (are_met n edges ys b) r.1.1 inside stop enough none f.ended (omega (arith, whole, low))

  pub least_of_way : stop ≡ limit → enough ≡ 0 → get_or s.distances.items asked 0 < limit
      → HasChain n edges asked target (raised (of ys) (of s.distances.items) asked -ℤ raised (of ys) (of s.distances.items) target)
      → IsLeast edges asked target (Some (raised (of ys) (of s.distances.items) asked -ℤ raised (of ys) (of s.distances.items) target))
  least_of_way whole none low way =
      let r = f.running in
      least_cut n edges (of ys) (of s.distances.items) (of s.vias.items) (of s.turns.items) r.0 target limit r.1.0 asked (are_met n edges ys b) r.1.1 inside (settled_asked whole none low) way

  pub least_found : stop ≡ limit → enough ≡ 0 → get_or s.distances.items asked 0 < limit
      → IsLeast edges asked target (Some (raised (of ys) (of s.distances.items) asked -ℤ raised (of ys) (of s.distances.items) target))
  least_found whole none low =
      let r = f.running in
      least_of_way whole none low
      (chain_of_asked n edges (of ys) (of s.distances.items) (of s.vias.items) (of s.turns.items) r.0 target limit r.1.0 asked (are_met n edges ys b) r.1.1 inside (settled_asked whole none low) low)
