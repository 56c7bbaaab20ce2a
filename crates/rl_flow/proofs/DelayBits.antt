-- How many register bits terms need of which no inc is long.
use Rattle.std.proofs.Common.{◌≡◌, ℕ, ◌≤◌, ◌+◌, ◌*◌, refl, ap, subst, arith, ◌∙◌, Bool, true, false, max, length, List, [], ◌∷◌, map, filter, fold, if◌then◌else◌}
use Rattle.std.specs.List.{AllByRecursion, IsDistinct, sum_by}
use Rattle.std.proofs.lemmas.List.Sums.{sum_by-cons, sum_by-le-sum_by}
use Rattle.term_store.specs.Tree.{Tree, Never, Input, Min, Max, Lt, Inc}
use Rattle.term_store.specs.Subterms.{same_tree, all_subterms, distinct_subterms, is_join, is_lt, is_delay, join_count, delay_count, delay_of, register_bits}
use Rattle.term_store.proofs.Parts.{same_is}
use Rattle.term_store.proofs.FewTerms.{same_sym, distinct_is}

-- an inc of at most m cycles, or no inc
abbrev pub IsShort : ℕ → Tree → Type 0
IsShort m (Inc a c) = c ≤ m
IsShort m t = Unit {0}

-- ---- sums

sum_plus : (f g : Tree → ℕ) (ts : List Tree) → sum_by (λ t. f t + g t) ts ≡ sum_by f ts + sum_by g ts
sum_plus f g [] = refl
sum_plus f g (t ∷ ts) = omega (arith, sum_by-cons (λ u. f u + g u) t ts, sum_by-cons f t ts, sum_by-cons g t ts, sum_plus f g ts)

sum_none : (f : Tree → ℕ) (ts : List Tree) → ((t : Tree) → f t ≡ 0) → sum_by f ts ≡ 0
sum_none f [] h = refl
sum_none f (t ∷ ts) h = omega (arith, sum_by-cons f t ts, h t, sum_none f ts h)

-- c for the term a, and 0 for every other
abbrev only_at : Tree → ℕ → Tree → ℕ
only_at a c t = if same_tree t a then c else 0

none_at : (a : Tree) (c : ℕ) (ts : List Tree) → AllByRecursion (λ u. same_tree a u ≡ false) ts → sum_by (only_at a c) ts ≡ 0
none_at a c [] h = refl
none_at a c (t ∷ ts) h =
    let here : only_at a c t ≡ 0 = ap (λ b. if b then c else 0) (same_sym t a ∙ h.0) in
    omega (arith, sum_by-cons (only_at a c) t ts, here, none_at a c ts h.1)

-- a term is at most once in a list of distinct terms
one_at : (a : Tree) (c : ℕ) (ts : List Tree) → IsDistinct same_tree ts → sum_by (only_at a c) ts ≤ c
unfolding IsDistinct
one_at a c [] h = omega arith
one_at a c (t ∷ ts) h = go (same_tree t a) refl (one_at a c ts h.1)
  where
    go : (b : Bool) → same_tree t a ≡ b → sum_by (only_at a c) ts ≤ c → sum_by (only_at a c) (t ∷ ts) ≤ c
    go true e rest =
        let none : AllByRecursion (λ u. same_tree a u ≡ false) ts = subst (λ (v : Tree). AllByRecursion (λ u. same_tree v u ≡ false) ts) (same_is t a e) h.0 in
        let here : only_at a c t ≡ c = ap (λ b. if b then c else 0) e in
        omega (arith, sum_by-cons (only_at a c) t ts, here, none_at a c ts none)
    go false e rest =
        let here : only_at a c t ≡ 0 = ap (λ b. if b then c else 0) e in
        omega (arith, sum_by-cons (only_at a c) t ts, here, rest)

-- ---- delays

-- what s delays, in a list of distinct terms
delay_sum : (m : ℕ) (s : Tree) (ts : List Tree) → IsDistinct same_tree ts → IsShort m s → sum_by (λ t. delay_of t s) ts ≤ (if is_delay s then m else 0)
delay_sum m Never ts d h = omega (arith, sum_none (λ t. delay_of t Never) ts (λ t. refl))
delay_sum m (Input i) ts d h = omega (arith, sum_none (λ t. delay_of t (Input i)) ts (λ t. refl))
delay_sum m (Min a b) ts d h = omega (arith, sum_none (λ t. delay_of t (Min a b)) ts (λ t. refl))
delay_sum m (Max a b) ts d h = omega (arith, sum_none (λ t. delay_of t (Max a b)) ts (λ t. refl))
delay_sum m (Lt a b) ts d h = omega (arith, sum_none (λ t. delay_of t (Lt a b)) ts (λ t. refl))
delay_sum m (Inc a c) ts d h = omega (arith, one_at a c ts d, h)

fold_max : (a : ℕ) (xs : List ℕ) → fold max a xs ≡ max a (fold max 0 xs)
fold_max a [] = omega arith
fold_max a (x ∷ xs) = omega (arith, fold_max (max a x) xs, fold_max (max 0 x) xs)

-- the most cycles by which one of these terms delays t
abbrev longest : List Tree → Tree → ℕ
longest ss t = fold max 0 (map (delay_of t) ss)

longest_more : (s t : Tree) (ss : List Tree) → longest (s ∷ ss) t ≤ delay_of t s + longest ss t
longest_more s t ss = omega (arith, fold_max (max 0 (delay_of t s)) (map (delay_of t) ss))

count_more : (m : ℕ) (s : Tree) (ss : List Tree) → m * length (filter is_delay (s ∷ ss)) ≡ (if is_delay s then m else 0) + m * length (filter is_delay ss)
count_more m s ss = go (is_delay s)
  where
    go : (b : Bool) → m * length (if b then s ∷ filter is_delay ss else filter is_delay ss) ≡ (if b then m else 0) + m * length (filter is_delay ss)
    go true = omega arith
    go false = omega arith

delays_few : (m : ℕ) (ts ss : List Tree) → IsDistinct same_tree ts → AllByRecursion (IsShort m) ss → sum_by (longest ss) ts ≤ m * length (filter is_delay ss)
delays_few m ts [] d h = omega (arith, sum_none (longest []) ts (λ t. refl))
delays_few m ts (s ∷ ss) d h =
    omega (
      arith,
      sum_by-le-sum_by (longest (s ∷ ss)) (λ t. delay_of t s + longest ss t) ts (λ t. longest_more s t ss),
      sum_plus (λ t. delay_of t s) (longest ss) ts,
      delay_sum m s ts d h.0,
      delays_few m ts ss d h.1,
      count_more m s ss,
    )

-- ---- lt

lt_is_join : (t : Tree) (ts us : List Tree) → length ts ≤ length us → length (if is_lt t then t ∷ ts else ts) ≤ length (if is_join t then t ∷ us else us)
lt_is_join Never ts us h = h
lt_is_join (Input i) ts us h = h
lt_is_join (Min a b) ts us h = omega (arith, h)
lt_is_join (Max a b) ts us h = omega (arith, h)
lt_is_join (Lt a b) ts us h = omega (arith, h)
lt_is_join (Inc a c) ts us h = h

lt_less : (ts : List Tree) → length (filter is_lt ts) ≤ length (filter is_join ts)
lt_less [] = omega arith
lt_less (t ∷ ts) = lt_is_join t (filter is_lt ts) (filter is_join ts) (lt_less ts)

-- m for each inc, and one for each lt
pub few_bits : (m : ℕ) (trees : List Tree) → AllByRecursion (IsShort m) (distinct_subterms trees) → register_bits trees ≤ m * delay_count trees + join_count trees
few_bits m trees h =
    let ds = distinct_subterms trees in
    omega (arith, delays_few m ds ds (distinct_is (all_subterms trees)) h, lt_less ds)
