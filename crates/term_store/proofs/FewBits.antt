-- How many register bits terms need, where each inc of an input is short and every other inc is of one cycle.
use Rattle.std.proofs.Common.{◌≡◌, ℕ, zero, suc, ◌<◌, ◌≤◌, ◌+◌, ◌*◌, refl, ap, subst, arith, sym, ◌∙◌, Bool, true, false, true≢false, ◌||◌, max, length, List, [], ◌∷◌, map, filter, fold, if◌then◌else◌, inl, inr}
use Rattle.std.specs.List.{AllByRecursion, sum_by}
use Rattle.std.proofs.Math.Nat.{max-le, mul-le-mul_left}
use Rattle.std.proofs.lemmas.Bool.{cases_lt}
use Rattle.std.proofs.lemmas.List.Sums.{sum_by-cons, sum_by-le-sum_by}
use Rattle.term_store.specs.Tree.{Tree, Never, Input, Min, Max, Lt, Inc}
use Rattle.term_store.specs.Subterms.{same_tree, is_among, distinct, all_subterms, distinct_subterms, is_join, is_lt, is_delay, join_count, delay_count, delay_of, register_bits, longest_for, IsShortDelay, IsInputBelow}
use Rattle.term_store.proofs.Parts.{same_refl, same_is, or_left, or_right}

-- ---- sums

-- w for a term that passes the test
abbrev weight : ℕ → (Tree → Bool) → Tree → ℕ
weight w p t = if p t then w else 0

-- w for each that passes
weighed : (w : ℕ) (p : Tree → Bool) (ts : List Tree) → sum_by (weight w p) ts ≡ w * length (filter p ts)
weighed w p [] = omega arith
weighed w p (t ∷ ts) = sum_by-cons (weight w p) t ts ∙ go (p t) (weighed w p ts)
  where
    go : (b : Bool) → sum_by (weight w p) ts ≡ w * length (filter p ts) → (if b then w else 0) + sum_by (weight w p) ts ≡ w * length (if b then t ∷ filter p ts else filter p ts)
    go true rest = omega (arith, rest)
    go false rest = omega (arith, rest)

sum_plus : (f g : Tree → ℕ) (ts : List Tree) → sum_by (λ t. f t + g t) ts ≡ sum_by f ts + sum_by g ts
sum_plus f g [] = refl
sum_plus f g (t ∷ ts) = omega (arith, sum_by-cons (λ u. f u + g u) t ts, sum_by-cons f t ts, sum_by-cons g t ts, sum_plus f g ts)

sum_less : (P : Tree → Type 0) (f g : Tree → ℕ) (ts : List Tree) → ((t : Tree) → P t → f t ≤ g t) → AllByRecursion P ts → sum_by f ts ≤ sum_by g ts
sum_less P f g [] h all = omega arith
sum_less P f g (t ∷ ts) h all = omega (arith, sum_by-cons f t ts, sum_by-cons g t ts, h t all.0, sum_less P f g ts h all.1)

sum_none : (ts : List Tree) → sum_by (λ (t : Tree). 0) ts ≡ 0
sum_none [] = refl
sum_none (t ∷ ts) = omega (arith, sum_by-cons (λ (u : Tree). 0) t ts, sum_none ts)

-- the sums of two lists may be taken in either order
crossed : (f : Tree → Tree → ℕ) (ts us : List Tree) → sum_by (λ t. sum_by (f t) us) ts ≡ sum_by (λ u. sum_by (λ t. f t u) ts) us
crossed f ts [] = sum_none ts
crossed f ts (u ∷ us) =
    let first : sum_by (λ t. sum_by (f t) (u ∷ us)) ts ≡ sum_by (λ t. f t u + sum_by (f t) us) ts = λ i. sum_by (λ t. sum_by-cons (f t) u us i) ts in
    omega (arith, first, sum_plus (λ t. f t u) (λ t. sum_by (f t) us) ts, crossed f ts us, sum_by-cons (λ v. sum_by (λ t. f t v) ts) u us)

-- the greatest number is at most the sum of all
fold_sum : (f : Tree → ℕ) (a : ℕ) (ts : List Tree) → fold max a (map f ts) ≤ a + sum_by f ts
fold_sum f a [] = omega arith
fold_sum f a (t ∷ ts) = omega (arith, fold_sum f (max a (f t)) ts, sum_by-cons f t ts)

fold_within : (P : Tree → Type 0) (f : Tree → ℕ) (a m : ℕ) (ts : List Tree) → a ≤ m → ((t : Tree) → P t → f t ≤ m) → AllByRecursion P ts → fold max a (map f ts) ≤ m
fold_within P f a m [] le h all = le
fold_within P f a m (t ∷ ts) le h all = fold_within P f (max a (f t)) m ts (max-le le (h t all.0)) h all.1

-- ---- a list in which each term occurs once

wider : (c : Bool) (t : Tree) (xs ys : List Tree) → length xs ≤ length ys → length xs ≤ length (if c then t ∷ ys else ys)
wider true t xs ys h = omega (arith, h)
wider false t xs ys h = h

both_wider : (c : Bool) (t : Tree) (xs ys : List Tree) → length xs ≤ length ys → length (if c then t ∷ xs else xs) ≤ length (if c then t ∷ ys else ys)
both_wider true t xs ys h = omega (arith, h)
both_wider false t xs ys h = h

once_less : (p : Tree → Bool) (ts : List Tree) → length (filter p (distinct ts)) ≤ length (filter p ts)
once_less p [] = omega arith
once_less p (t ∷ ts) = go (is_among t ts) (once_less p ts)
  where
    go : (b : Bool) → length (filter p (distinct ts)) ≤ length (filter p ts) → length (filter p (if b then distinct ts else t ∷ distinct ts)) ≤ length (filter p (t ∷ ts))
    go true h = wider (p t) t (filter p (distinct ts)) (filter p ts) h
    go false h = both_wider (p t) t (filter p (distinct ts)) (filter p ts) h

right_false : (p q : Bool) → (p || q) ≡ false → q ≡ false
right_false p true e = absurd (true≢false (sym (or_right p true refl) ∙ e))
right_false p false e = refl

none_same : (a : Tree) (ts : List Tree) → is_among a ts ≡ false → length (filter (λ t. same_tree t a) ts) ≡ 0
none_same a [] e = refl
none_same a (t ∷ ts) e = go (same_tree t a) refl (none_same a ts (right_false (same_tree a t) (is_among a ts) e))
  where
    go : (b : Bool) → same_tree t a ≡ b → length (filter (λ u. same_tree u a) ts) ≡ 0 → length (if b then t ∷ filter (λ u. same_tree u a) ts else filter (λ u. same_tree u a) ts) ≡ 0
    go true f rest = absurd (true≢false (sym (or_left (same_tree a t) (is_among a ts) (ap (same_tree a) (same_is t a f) ∙ same_refl a)) ∙ e))
    go false f rest = rest

one_same : (a : Tree) (ts : List Tree) → length (filter (λ t. same_tree t a) (distinct ts)) ≤ 1
one_same a [] = omega arith
one_same a (t ∷ ts) = go (is_among t ts) refl (one_same a ts)
  where
    first : is_among t ts ≡ false → length (filter (λ u. same_tree u a) (distinct ts)) ≤ 1 → (b : Bool) → same_tree t a ≡ b → length (if b then t ∷ filter (λ u. same_tree u a) (distinct ts) else filter (λ u. same_tree u a) (distinct ts)) ≤ 1
    first e rest true f = omega (arith, once_less (λ u. same_tree u a) ts, none_same a ts (subst (λ u. is_among u ts ≡ false) (same_is t a f) e))
    first e rest false f = rest

    go : (b : Bool) → is_among t ts ≡ b → length (filter (λ u. same_tree u a) (distinct ts)) ≤ 1 → length (filter (λ u. same_tree u a) (if b then distinct ts else t ∷ distinct ts)) ≤ 1
    go true e rest = rest
    go false e rest = first e rest (same_tree t a) refl

same_weight : (w : ℕ) (a : Tree) (ts : List Tree) → sum_by (weight w (λ t. same_tree t a)) (distinct ts) ≤ w
same_weight w a ts = omega (arith, weighed w (λ t. same_tree t a) (distinct ts), mul-le-mul_left w (one_same a ts))

-- ---- inputs

-- an input whose place is below n
abbrev is_low : ℕ → Tree → Bool
is_low zero t = false
is_low (suc n) t = is_low n t || same_tree t (Input n)

low_is : (n i : ℕ) → i < n → is_low n (Input i) ≡ true
low_is zero i h = absurd (omega (arith, h))
low_is (suc n) i h = elim (cases_lt i n) [
  | inl b ↦ or_left (is_low n (Input i)) (same_tree (Input i) (Input n)) (low_is n i b)
  | inr b ↦ let same : i ≡ n = omega (arith, b, h) in
      or_right (is_low n (Input i)) (same_tree (Input i) (Input n)) (ap (λ k. same_tree (Input i) (Input k)) (sym same) ∙ same_refl (Input i))
]

low_weight : (w n : ℕ) (ts : List Tree) → sum_by (weight w (is_low n)) (distinct ts) ≤ w * n
low_weight w zero ts = omega (arith, sum_none (distinct ts))
low_weight w (suc n) ts =
    omega (
      arith,
      sum_by-le-sum_by (weight w (is_low (suc n))) (λ t. weight w (is_low n) t + weight w (λ u. same_tree u (Input n)) t) (distinct ts) (λ t. either (is_low n t) (same_tree t (Input n))),
      sum_plus (weight w (is_low n)) (weight w (λ u. same_tree u (Input n))) (distinct ts),
      low_weight w n ts,
      same_weight w (Input n) ts,
    )
  where
    either : (p q : Bool) → (if p || q then w else 0) ≤ (if p then w else 0) + (if q then w else 0)
    either true q = omega arith
    either false q = omega arith

-- ---- delays

delay_within : (m : ℕ) (t u : Tree) → 1 ≤ m → IsShortDelay m u → delay_of t u ≤ m
delay_within m t Never le h = omega arith
delay_within m t (Input i) le h = omega arith
delay_within m t (Min a b) le h = omega arith
delay_within m t (Max a b) le h = omega arith
delay_within m t (Lt a b) le h = omega arith
delay_within m t (Inc a c) le h = go (same_tree t a)
  where
    least : (b : Tree) → longest_for m b ≤ m
    least Never = le
    least (Input i) = omega arith
    least (Min p q) = le
    least (Max p q) = le
    least (Lt p q) = le
    least (Inc p k) = le

    go : (b : Bool) → (if b then c else 0) ≤ m
    go true = omega (arith, h, least a)
    go false = omega arith

-- by how many cycles s delays t where t is no input
abbrev later_by : Tree → Tree → ℕ
later_by (Input i) s = 0
later_by t s = delay_of t s

later_less : (t s : Tree) → later_by t s ≤ delay_of t s
later_less Never s = omega arith
later_less (Input i) s = omega arith
later_less (Min a b) s = omega arith
later_less (Max a b) s = omega arith
later_less (Lt a b) s = omega arith
later_less (Inc a c) s = omega arith

-- an inc of one cycle delays but its own term
one_cycle : (a : Tree) (c : ℕ) → c ≤ 1 → (t : Tree) → later_by t (Inc a c) ≤ weight 1 (λ u. same_tree u a) t
one_cycle a c h t = omega (arith, later_less t (Inc a c), go (same_tree t a))
  where
    go : (b : Bool) → (if b then c else 0) ≤ (if b then 1 else 0)
    go true = h
    go false = omega arith

-- a short inc delays an input, or one other term by one cycle
later_one : (m : ℕ) (a : Tree) (c : ℕ) → c ≤ longest_for m a → (t : Tree) → later_by t (Inc a c) ≤ weight 1 (λ u. same_tree u a) t
later_one m (Input i) c h Never = omega arith
later_one m (Input i) c h (Input j) = omega arith
later_one m (Input i) c h (Min a b) = omega arith
later_one m (Input i) c h (Max a b) = omega arith
later_one m (Input i) c h (Lt a b) = omega arith
later_one m (Input i) c h (Inc a k) = omega arith
later_one m Never c h t = one_cycle Never c h t
later_one m (Min a b) c h t = one_cycle (Min a b) c h t
later_one m (Max a b) c h t = one_cycle (Max a b) c h t
later_one m (Lt a b) c h t = one_cycle (Lt a b) c h t
later_one m (Inc a k) c h t = one_cycle (Inc a k) c h t

-- what is no inc delays nothing
no_delay : (s : Tree) (ts : List Tree) → ((t : Tree) → delay_of t s ≤ 0) → sum_by (λ t. later_by t s) ts ≤ 0
no_delay s ts h =
    omega (arith, sum_by-le-sum_by (λ t. later_by t s) (λ t. 0) ts (λ t. omega (arith, later_less t s, h t)), sum_none ts)

later_few : (m : ℕ) (ts : List Tree) (s : Tree) → IsShortDelay m s → sum_by (λ t. later_by t s) (distinct ts) ≤ weight 1 is_delay s
later_few m ts Never h = no_delay Never (distinct ts) (λ t. omega arith)
later_few m ts (Input i) h = no_delay (Input i) (distinct ts) (λ t. omega arith)
later_few m ts (Min a b) h = no_delay (Min a b) (distinct ts) (λ t. omega arith)
later_few m ts (Max a b) h = no_delay (Max a b) (distinct ts) (λ t. omega arith)
later_few m ts (Lt a b) h = no_delay (Lt a b) (distinct ts) (λ t. omega arith)
later_few m ts (Inc a c) h =
    omega (arith, sum_by-le-sum_by (λ t. later_by t (Inc a c)) (weight 1 (λ u. same_tree u a)) (distinct ts) (later_one m a c h), same_weight 1 a ts)

-- the longest delay of an input, or else the sum of all delays
longest_within : (m n : ℕ) (ss : List Tree) → 1 ≤ m → AllByRecursion (IsShortDelay m) ss → (t : Tree) → IsInputBelow n t → fold max 0 (map (delay_of t) ss) ≤ weight m (is_low n) t + sum_by (later_by t) ss
longest_within m n ss le all (Input i) h =
    let low = low_is n i h in
    let here : weight m (is_low n) (Input i) ≡ m = ap (λ b. if b then m else 0) low in
    omega (arith, here, fold_within (IsShortDelay m) (delay_of (Input i)) 0 m ss (omega arith) (λ s k. delay_within m (Input i) s le k) all)
longest_within m n ss le all Never h = omega (arith, fold_sum (delay_of Never) 0 ss)
longest_within m n ss le all (Min a b) h = omega (arith, fold_sum (delay_of (Min a b)) 0 ss)
longest_within m n ss le all (Max a b) h = omega (arith, fold_sum (delay_of (Max a b)) 0 ss)
longest_within m n ss le all (Lt a b) h = omega (arith, fold_sum (delay_of (Lt a b)) 0 ss)
longest_within m n ss le all (Inc a c) h = omega (arith, fold_sum (delay_of (Inc a c)) 0 ss)

-- m for each input, and one for each inc
delay_bits : (m n : ℕ) (ts : List Tree) → 1 ≤ m → AllByRecursion (IsInputBelow n) (distinct ts) → AllByRecursion (IsShortDelay m) (distinct ts)
    → sum_by (λ t. fold max 0 (map (delay_of t) (distinct ts))) (distinct ts) ≤ m * n + length (filter is_delay (distinct ts))
delay_bits m n ts le inputs delays =
    let ds : List Tree = distinct ts in
    omega (
      arith,
      sum_less (IsInputBelow n) (λ t. fold max 0 (map (delay_of t) ds)) (λ t. weight m (is_low n) t + sum_by (later_by t) ds) ds (longest_within m n ds le delays) inputs,
      sum_plus (weight m (is_low n)) (λ t. sum_by (later_by t) ds) ds,
      low_weight m n ts,
      crossed later_by ds ds,
      sum_less (IsShortDelay m) (λ s. sum_by (λ t. later_by t s) ds) (weight 1 is_delay) ds (later_few m ts) delays,
      weighed 1 is_delay ds,
    )

-- ---- lt

lt_is_join : (t : Tree) (ts us : List Tree) → length ts ≤ length us → length (if is_lt t then t ∷ ts else ts) ≤ length (if is_join t then t ∷ us else us)
lt_is_join Never ts us h = h
lt_is_join (Input i) ts us h = h
lt_is_join (Min a b) ts us h = omega (arith, h)
lt_is_join (Max a b) ts us h = omega (arith, h)
lt_is_join (Lt a b) ts us h = omega (arith, h)
lt_is_join (Inc a c) ts us h = h

lt_less : (ts : List Tree) → length (filter is_lt ts) ≤ length (filter is_join ts)
lt_less [] = omega arith
lt_less (t ∷ ts) = lt_is_join t (filter is_lt ts) (filter is_join ts) (lt_less ts)

-- m for each input, one for each inc, and one for each lt
pub few_bits : (m n : ℕ) (trees : List Tree) → 1 ≤ m → AllByRecursion (IsInputBelow n) (distinct_subterms trees) → AllByRecursion (IsShortDelay m) (distinct_subterms trees)
    → register_bits trees ≤ m * n + delay_count trees + join_count trees
few_bits m n trees le inputs delays = omega (arith, delay_bits m n (all_subterms trees) le inputs delays, lt_less (distinct_subterms trees))
