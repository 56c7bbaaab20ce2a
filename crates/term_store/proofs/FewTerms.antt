-- A network's terms have no more distinct operators than the network writes.
use Rattle.std.proofs.Common.{◌≡◌, ℕ, zero, suc, ◌<◌, ◌≤◌, ◌+◌, refl, ap, subst, arith, sym, ◌∙◌, Bool, true, false, true≢false, ◌&&◌, ◌||◌, nat_eq, length, List, [], ◌∷◌, ◌++◌, length-append, append_assoc, map, filter, fold, if◌then◌else◌, ◌⊎◌, inl, inr}
use Rattle.std.specs.List.{AllByRecursion, IsDistinct, sum_by}
use Rattle.std.specs.Cmp.{IsEquivalence}
use Rattle.std.proofs.lemmas.List.Elements.{filter-append}
use Rattle.std.proofs.lemmas.List.Sums.{sum_by-cons, sum_by-append}
use Rattle.std.proofs.lemmas.Map.Made.{length-le_from_is_member}
use Rattle.std.proofs.lemmas.Map.Views.{any-filter_same}
use Rattle.net_model.specs.Formula.{Formula, Equation, Net}
use Rattle.net_model.specs.Formula as formula
use Rattle.net_model.specs.Rules.{joins, delays, IsOver, AreLets, IsNetwork}
use Rattle.term_store.specs.Tree.{Tree, Never, Input, Min, Max, Lt, Inc}
use Rattle.term_store.specs.Terms.{tree_in, delayed, tree_over, let_trees, network_trees}
use Rattle.term_store.specs.Subterms.{all_subterms, same_tree, is_among, distinct, distinct_subterms, is_join, is_delay, join_count, delay_count, IsInputBelow, AreNetworkTerms}
use Rattle.term_store.proofs.Parts.{same_refl, same_is, same_from, IsIn, or_left, or_right, or_either, among_append, all_among}
use Rattle.term_store.proofs.TermValues.{spans_are, all_short}

-- sameness

pub same_sym : (s t : Tree) → same_tree s t ≡ same_tree t s
same_sym s t = go (same_tree s t) (same_tree t s) refl refl
  where
    go : (p q : Bool) → same_tree s t ≡ p → same_tree t s ≡ q → p ≡ q
    go true true e f = refl
    go false false e f = refl
    go true false e f = absurd (true≢false (sym (same_from t s (sym (same_is s t e))) ∙ f))
    go false true e f = absurd (true≢false (sym (same_from s t (sym (same_is t s f))) ∙ e))

pub same_laws : IsEquivalence same_tree
same_laws = record {
  refl = same_refl;
  symm = same_sym;
  congr = λ s t u e. ap (λ v. same_tree v u) (same_is s t e);
}

-- each tree of `distinct` occurs there once

pub among_distinct_from : (s : Tree) (ts : List Tree) → is_among s (distinct ts) ≡ true → is_among s ts ≡ true
among_distinct_from s [] h = h
among_distinct_from s (t ∷ ts) h = go (is_among t ts) refl (among_distinct_from s ts)
  where
    go : (b : Bool) → is_among t ts ≡ b → (is_among s (distinct ts) ≡ true → is_among s ts ≡ true) → is_among s (t ∷ ts) ≡ true
    go true e rest = or_right (same_tree s t) (is_among s ts) (rest (ap (λ p. is_among s (if p then distinct ts else t ∷ distinct ts)) (sym e) ∙ h))
    go false e rest = elim (or_either (same_tree s t) (is_among s (distinct ts)) (ap (λ p. is_among s (if p then distinct ts else t ∷ distinct ts)) (sym e) ∙ h)) [
      | inl k ↦ or_left (same_tree s t) (is_among s ts) k
      | inr k ↦ or_right (same_tree s t) (is_among s ts) (rest k)
    ]

pub among_distinct : (s : Tree) (ts : List Tree) → is_among s ts ≡ true → is_among s (distinct ts) ≡ true
among_distinct s [] h = h
among_distinct s (t ∷ ts) h = go (is_among t ts) refl (among_distinct s ts)
  where
    go : (b : Bool) → is_among t ts ≡ b → (is_among s ts ≡ true → is_among s (distinct ts) ≡ true) → is_among s (distinct (t ∷ ts)) ≡ true
    go true e rest = ap (λ p. is_among s (if p then distinct ts else t ∷ distinct ts)) e ∙ rest (elim (or_either (same_tree s t) (is_among s ts) h) [
      | inl k ↦ ap (λ u. is_among u ts) (same_is s t k) ∙ e
      | inr k ↦ k
    ])
    go false e rest = ap (λ p. is_among s (if p then distinct ts else t ∷ distinct ts)) e ∙ elim (or_either (same_tree s t) (is_among s ts) h) [
      | inl k ↦ or_left (same_tree s t) (is_among s (distinct ts)) k
      | inr k ↦ or_right (same_tree s t) (is_among s (distinct ts)) (rest k)
    ]

apart_from_absent : (t : Tree) (ts : List Tree) → is_among t ts ≡ false → AllByRecursion (λ u. same_tree t u ≡ false) ts
apart_from_absent t [] e = tt
apart_from_absent t (u ∷ us) e = let h = neither (same_tree t u) (is_among t us) e in (h.0, apart_from_absent t us h.1)
  where
    neither : (p q : Bool) → (p || q) ≡ false → (p ≡ false) × (q ≡ false)
    neither true q h = absurd (true≢false h)
    neither false q h = (refl, h)

absent_from : (s : Tree) (ts : List Tree) → is_among s ts ≡ false → is_among s (distinct ts) ≡ false
absent_from s ts e = go (is_among s (distinct ts)) refl
  where
    go : (b : Bool) → is_among s (distinct ts) ≡ b → is_among s (distinct ts) ≡ false
    go true h = absurd (true≢false (sym (among_distinct_from s ts h) ∙ e))
    go false h = h

pub distinct_is : (ts : List Tree) → IsDistinct same_tree (distinct ts)
unfolding IsDistinct
distinct_is [] = tt
distinct_is (t ∷ ts) = go (is_among t ts) refl (distinct_is ts)
  where
    go : (b : Bool) → is_among t ts ≡ b → IsDistinct same_tree (distinct ts) → IsDistinct same_tree (distinct (t ∷ ts))
    go true e rest = subst (λ p. IsDistinct same_tree (if p then distinct ts else t ∷ distinct ts)) (sym e) rest
    go false e rest = subst (λ p. IsDistinct same_tree (if p then distinct ts else t ∷ distinct ts)) (sym e) (apart_from_absent t (distinct ts) (absent_from t ts e), rest)

-- a filter keeps a list's elements apart

apart_filter : (t : Tree) (p : Tree → Bool) (ts : List Tree) → AllByRecursion (λ u. same_tree t u ≡ false) ts → AllByRecursion (λ u. same_tree t u ≡ false) (filter p ts)
apart_filter t p [] h = tt
apart_filter t p (u ∷ us) h = go (p u) refl (apart_filter t p us h.1)
  where
    go : (b : Bool) → p u ≡ b → AllByRecursion (λ v. same_tree t v ≡ false) (filter p us) → AllByRecursion (λ v. same_tree t v ≡ false) (filter p (u ∷ us))
    go true e rest = subst (λ b. AllByRecursion (λ v. same_tree t v ≡ false) (if b then u ∷ filter p us else filter p us)) (sym e) (h.0, rest)
    go false e rest = subst (λ b. AllByRecursion (λ v. same_tree t v ≡ false) (if b then u ∷ filter p us else filter p us)) (sym e) rest

pub distinct_filter : (p : Tree → Bool) (ts : List Tree) → IsDistinct same_tree ts → IsDistinct same_tree (filter p ts)
unfolding IsDistinct
distinct_filter p [] h = tt
distinct_filter p (u ∷ us) h = go (p u) refl (distinct_filter p us h.1)
  where
    go : (b : Bool) → p u ≡ b → IsDistinct same_tree (filter p us) → IsDistinct same_tree (filter p (u ∷ us))
    go true e rest = subst (λ b. IsDistinct same_tree (if b then u ∷ filter p us else filter p us)) (sym e) (apart_filter u p us h.0, rest)
    go false e rest = subst (λ b. IsDistinct same_tree (if b then u ∷ filter p us else filter p us)) (sym e) rest

pub among_filter : (p : Tree → Bool) (s : Tree) (ts : List Tree) → is_among s (filter p ts) ≡ (p s && is_among s ts)
among_filter p s ts = any-filter_same (same_tree s) p (p s) (λ t e. ap p (sym (same_is s t e))) ts

pub and_parts : (p q : Bool) → (p && q) ≡ true → (p ≡ true) × (q ≡ true)
and_parts true q e = (refl, e)
and_parts false q e = absurd (true≢false (sym e))

pub and_both : (p q : Bool) → p ≡ true → q ≡ true → (p && q) ≡ true
and_both p q e f = ap (λ b. b && q) e ∙ f

-- distinct subterms that pass are no more than a list that has them all
pub no_more : (p : Tree → Bool) (ts own : List Tree) → ((s : Tree) → p s ≡ true → is_among s (all_subterms ts) ≡ true → is_among s own ≡ true)
    → length (filter p (distinct_subterms ts)) ≤ length (filter p own)
no_more p ts own covers =
    length-le_from_is_member same_laws (filter p (distinct_subterms ts)) (filter p own) (distinct_filter p (distinct_subterms ts) (distinct_is (all_subterms ts)))
    (λ s h.
    let k = and_parts (p s) (is_among s (distinct_subterms ts)) (sym (among_filter p s (distinct_subterms ts)) ∙ h) in
    among_filter p s own ∙ and_both (p s) (is_among s own) k.0 (covers s k.0 (among_distinct_from s (all_subterms ts) k.1)))

-- the operators that a formula writes, as trees over those of the lets

abbrev pub is_operator : Tree → Bool
is_operator t = is_join t || is_delay t

abbrev own_delay : Tree → ℕ → List Tree
own_delay t c = if nat_eq c 0 then [] else Inc t c ∷ []

abbrev pub own : List Tree → Formula → List Tree
own ts formula.Never = []
own ts (formula.Input i) = []
own ts (formula.Named j) = []
own ts (formula.Min a b) = Min (tree_over ts a) (tree_over ts b) ∷ own ts a ++ own ts b
own ts (formula.Max a b) = Max (tree_over ts a) (tree_over ts b) ∷ own ts a ++ own ts b
own ts (formula.Lt a b) = Lt (tree_over ts a) (tree_over ts b) ∷ own ts a ++ own ts b
own ts (formula.Inc a c) = own_delay (tree_over ts a) c ++ own ts a

count_append : (p : Tree → Bool) (xs ys : List Tree) → length (filter p (xs ++ ys)) ≡ length (filter p xs) + length (filter p ys)
count_append p xs ys = ap length (filter-append p xs ys) ∙ length-append (filter p xs) (filter p ys)

no_join_delay : (t : Tree) (c : ℕ) → length (filter is_join (own_delay t c)) ≡ 0
no_join_delay t c = go (nat_eq c 0) refl
  where
    go : (b : Bool) → nat_eq c 0 ≡ b → length (filter is_join (own_delay t c)) ≡ 0
    go true e = ap (λ b. length (filter is_join (if b then [] else Inc t c ∷ []))) e
    go false e = ap (λ b. length (filter is_join (if b then [] else Inc t c ∷ []))) e

one_delay : (t : Tree) (c : ℕ) → length (filter is_delay (own_delay t c)) ≤ 1
one_delay t c = go (nat_eq c 0) refl
  where
    go : (b : Bool) → nat_eq c 0 ≡ b → length (filter is_delay (own_delay t c)) ≤ 1
    go true e = subst (λ b. length (filter is_delay (if b then [] else Inc t c ∷ [])) ≤ 1) (sym e) (omega arith)
    go false e = subst (λ b. length (filter is_delay (if b then [] else Inc t c ∷ [])) ≤ 1) (sym e) (omega arith)

pub own_joins : (ts : List Tree) (f : Formula) → length (filter is_join (own ts f)) ≡ joins f
own_joins ts formula.Never = refl
own_joins ts (formula.Input i) = refl
own_joins ts (formula.Named j) = refl
own_joins ts (formula.Min a b) = omega (arith, own_joins ts a, own_joins ts b, count_append is_join (own ts a) (own ts b))
own_joins ts (formula.Max a b) = omega (arith, own_joins ts a, own_joins ts b, count_append is_join (own ts a) (own ts b))
own_joins ts (formula.Lt a b) = omega (arith, own_joins ts a, own_joins ts b, count_append is_join (own ts a) (own ts b))
own_joins ts (formula.Inc a c) = omega (arith, own_joins ts a, no_join_delay (tree_over ts a) c, count_append is_join (own_delay (tree_over ts a) c) (own ts a))

pub own_delays : (ts : List Tree) (f : Formula) → length (filter is_delay (own ts f)) ≤ delays f
own_delays ts formula.Never = omega arith
own_delays ts (formula.Input i) = omega arith
own_delays ts (formula.Named j) = omega arith
own_delays ts (formula.Min a b) = omega (arith, own_delays ts a, own_delays ts b, count_append is_delay (own ts a) (own ts b))
own_delays ts (formula.Max a b) = omega (arith, own_delays ts a, own_delays ts b, count_append is_delay (own ts a) (own ts b))
own_delays ts (formula.Lt a b) = omega (arith, own_delays ts a, own_delays ts b, count_append is_delay (own ts a) (own ts b))
own_delays ts (formula.Inc a c) = omega (arith, own_delays ts a, one_delay (tree_over ts a) c, count_append is_delay (own_delay (tree_over ts a) c) (own ts a))

-- the operators in the trees of a list are all among others

abbrev pub Covers : List Tree → List Tree → Type 0
Covers ts all = (s : Tree) (j : ℕ) → is_operator s ≡ true → IsIn s (tree_in ts j) → is_among s all ≡ true

pub more_left : (s : Tree) (xs ys : List Tree) → is_among s xs ≡ true → is_among s (xs ++ ys) ≡ true
more_left s xs ys e = among_append s xs ys ∙ or_left (is_among s xs) (is_among s ys) e

pub more_right : (s : Tree) (xs ys : List Tree) → is_among s ys ≡ true → is_among s (xs ++ ys) ≡ true
more_right s xs ys e = among_append s xs ys ∙ or_right (is_among s xs) (is_among s ys) e

either_more : (s : Tree) (all xs ys : List Tree) → (is_among s all ≡ true) ⊎ (is_among s xs ≡ true) → (is_among s all ≡ true) ⊎ (is_among s (xs ++ ys) ≡ true)
either_more s all xs ys h = elim h [ inl e ↦ inl e | inr e ↦ inr (more_left s xs ys e) ]

either_later : (s : Tree) (all xs ys : List Tree) → (is_among s all ≡ true) ⊎ (is_among s ys ≡ true) → (is_among s all ≡ true) ⊎ (is_among s (xs ++ ys) ≡ true)
either_later s all xs ys h = elim h [ inl e ↦ inl e | inr e ↦ inr (more_right s xs ys e) ]

-- an operator in a pair is the pair's own, or is in an operand
pair_covered : (s t : Tree) (all xs ys : List Tree) (A B : Type 0) → (s ≡ t) ⊎ (A ⊎ B) → (A → (is_among s all ≡ true) ⊎ (is_among s xs ≡ true)) → (B → (is_among s all ≡ true) ⊎ (is_among s ys ≡ true))
    → (is_among s all ≡ true) ⊎ (is_among s (t ∷ xs ++ ys) ≡ true)
pair_covered s t all xs ys A B h f g = elim h [
  | inl e ↦ inr (or_left (same_tree s t) _ (same_from s t e))
  | inr k ↦ elim k [
    | inl p ↦ either_later s all (t ∷ []) (xs ++ ys) (either_more s all xs ys (f p))
    | inr q ↦ either_later s all (t ∷ []) (xs ++ ys) (either_later s all xs ys (g q))
  ]
]

-- an operator in a delayed tree is the delay, or is in the tree
delay_covered : (s t : Tree) (c : ℕ) (all xs : List Tree) → IsIn s (delayed t c) → (IsIn s t → (is_among s all ≡ true) ⊎ (is_among s xs ≡ true))
    → (is_among s all ≡ true) ⊎ (is_among s (own_delay t c ++ xs) ≡ true)
delay_covered s t c all xs h f = go (nat_eq c 0) refl
  where
    go : (b : Bool) → nat_eq c 0 ≡ b → (is_among s all ≡ true) ⊎ (is_among s (own_delay t c ++ xs) ≡ true)
    go true e =
        let k : IsIn s t = subst (λ b. IsIn s (if b then t else Inc t c)) e h in
        either_later s all (own_delay t c) xs (f k)
    go false e =
        let k : IsIn s (Inc t c) = subst (λ b. IsIn s (if b then t else Inc t c)) e h in
        let here : own_delay t c ≡ Inc t c ∷ [] = ap (λ b. if b then [] else Inc t c ∷ []) e in
        elim k [
          | inl p ↦ inr (more_left s (own_delay t c) xs (ap (is_among s) here ∙ or_left (same_tree s (Inc t c)) false (same_from s (Inc t c) p)))
          | inr q ↦ either_later s all (own_delay t c) xs (f q)
        ]

covered : (s : Tree) (ts all : List Tree) (f : Formula) → Covers ts all → is_operator s ≡ true → IsIn s (tree_over ts f) → (is_among s all ≡ true) ⊎ (is_among s (own ts f) ≡ true)
covered s ts all formula.Never c o h = absurd (true≢false (sym o ∙ ap is_operator h))
covered s ts all (formula.Input i) c o h = absurd (true≢false (sym o ∙ ap is_operator h))
covered s ts all (formula.Named j) c o h = inl (c s j o h)
covered s ts all (formula.Min a b) c o h =
    pair_covered s (Min (tree_over ts a) (tree_over ts b)) all (own ts a) (own ts b) (IsIn s (tree_over ts a)) (IsIn s (tree_over ts b)) h (λ p. covered s ts all a c o p) (λ q. covered s ts all b c o q)
covered s ts all (formula.Max a b) c o h =
    pair_covered s (Max (tree_over ts a) (tree_over ts b)) all (own ts a) (own ts b) (IsIn s (tree_over ts a)) (IsIn s (tree_over ts b)) h (λ p. covered s ts all a c o p) (λ q. covered s ts all b c o q)
covered s ts all (formula.Lt a b) c o h =
    pair_covered s (Lt (tree_over ts a) (tree_over ts b)) all (own ts a) (own ts b) (IsIn s (tree_over ts a)) (IsIn s (tree_over ts b)) h (λ p. covered s ts all a c o p) (λ q. covered s ts all b c o q)
covered s ts all (formula.Inc a c) cs o h = delay_covered s (tree_over ts a) c all (own ts a) h (λ p. covered s ts all a cs o p)

-- what holds of each tree of a list, and of one more
each_pushed : (Q : Tree → Type 0) (ts : List Tree) (t : Tree) → ((j : ℕ) → Q (tree_in ts j)) → Q t → Q Never → (j : ℕ) → Q (tree_in (ts ++ t ∷ []) j)
each_pushed Q [] t h q n zero = q
each_pushed Q [] t h q n (suc j) = n
each_pushed Q (u ∷ us) t h q n zero = h 0
each_pushed Q (u ∷ us) t h q n (suc j) = each_pushed Q us t (λ k. h (suc k)) q n j

covers_pushed : (ts all : List Tree) (f : Formula) → Covers ts all → Covers (ts ++ tree_over ts f ∷ []) (all ++ own ts f)
covers_pushed ts all f c s j o =
    each_pushed (λ t. IsIn s t → is_among s (all ++ own ts f) ≡ true) ts (tree_over ts f)
    (λ k h. more_left s all (own ts f) (c s k o h))
    (λ h. elim (covered s ts all f c o h) [ inl e ↦ more_left s all (own ts f) e | inr e ↦ more_right s all (own ts f) e ])
    (λ h. absurd (true≢false (sym o ∙ ap is_operator h)))
    j

-- the operators that lets and outputs write

abbrev pub lets_own : List Tree → List Equation → List Tree
lets_own ts [] = []
lets_own ts (e ∷ es) = own ts e.body ++ lets_own (ts ++ tree_over ts e.body ∷ []) es

abbrev pub outputs_own : List Tree → List Equation → List Tree
outputs_own ts [] = []
outputs_own ts (e ∷ es) = own ts e.body ++ outputs_own ts es

covers_lets : (ts all : List Tree) (es : List Equation) → Covers ts all → Covers (fold (λ trees e. trees ++ tree_over trees e.body ∷ []) ts es) (all ++ lets_own ts es)
covers_lets ts all [] c = λ s j o h. more_left s all [] (c s j o h)
covers_lets ts all (e ∷ es) c =
    subst (Covers (fold (λ trees e. trees ++ tree_over trees e.body ∷ []) ts (e ∷ es))) (append_assoc all (own ts e.body) (lets_own (ts ++ tree_over ts e.body ∷ []) es))
    (covers_lets (ts ++ tree_over ts e.body ∷ []) (all ++ own ts e.body) es (covers_pushed ts all e.body c))

covers_outputs : (ts all : List Tree) (es : List Equation) → Covers ts all → Covers (map (λ e. tree_over ts e.body) es) (all ++ outputs_own ts es)
covers_outputs ts all [] c s j o h = absurd (true≢false (sym o ∙ ap is_operator h))
covers_outputs ts all (e ∷ es) c s zero o h = elim (covered s ts all e.body c o h) [
  | inl k ↦ more_left s all (outputs_own ts (e ∷ es)) k
  | inr k ↦ more_right s all (outputs_own ts (e ∷ es)) (more_left s (own ts e.body) (outputs_own ts es) k)
]
covers_outputs ts all (e ∷ es) c s (suc j) o h = elim (or_either (is_among s all) (is_among s (outputs_own ts es)) (sym (among_append s all (outputs_own ts es)) ∙ covers_outputs ts all es c s j o h)) [
  | inl k ↦ more_left s all (outputs_own ts (e ∷ es)) k
  | inr k ↦ more_right s all (outputs_own ts (e ∷ es)) (more_right s (own ts e.body) (outputs_own ts es) k)
]

abbrev pub network_own : Net → List Tree
network_own n = lets_own [] n.lets ++ outputs_own (let_trees n.lets) n.outputs

network_covers : (n : Net) → Covers (network_trees n) (network_own n)
network_covers n =
    let none : Covers [] [] = λ s j o h. absurd (true≢false (sym o ∙ ap is_operator h)) in
    covers_outputs (let_trees n.lets) (lets_own [] n.lets) n.outputs (covers_lets [] [] n.lets none)

own_is_among : (n : Net) (s : Tree) → is_operator s ≡ true → is_among s (all_subterms (network_trees n)) ≡ true → is_among s (network_own n) ≡ true
own_is_among n s o h = let f = all_among s (network_trees n) Never h in network_covers n s f.0 o f.2

-- how many they are

lets_joins : (ts : List Tree) (es : List Equation) → length (filter is_join (lets_own ts es)) ≡ sum_by (λ e. joins e.body) es
lets_joins ts [] = refl
lets_joins ts (e ∷ es) = let next = ts ++ tree_over ts e.body ∷ [] in
    omega (arith, own_joins ts e.body, lets_joins next es, count_append is_join (own ts e.body) (lets_own next es), sum_by-cons (λ (x : Equation). joins x.body) e es)

outputs_joins : (ts : List Tree) (es : List Equation) → length (filter is_join (outputs_own ts es)) ≡ sum_by (λ e. joins e.body) es
outputs_joins ts [] = refl
outputs_joins ts (e ∷ es) =
    omega (arith, own_joins ts e.body, outputs_joins ts es, count_append is_join (own ts e.body) (outputs_own ts es), sum_by-cons (λ (x : Equation). joins x.body) e es)

lets_delays : (ts : List Tree) (es : List Equation) → length (filter is_delay (lets_own ts es)) ≤ sum_by (λ e. delays e.body) es
lets_delays ts [] = omega arith
lets_delays ts (e ∷ es) = let next = ts ++ tree_over ts e.body ∷ [] in
    omega (arith, own_delays ts e.body, lets_delays next es, count_append is_delay (own ts e.body) (lets_own next es), sum_by-cons (λ (x : Equation). delays x.body) e es)

outputs_delays : (ts : List Tree) (es : List Equation) → length (filter is_delay (outputs_own ts es)) ≤ sum_by (λ e. delays e.body) es
outputs_delays ts [] = omega arith
outputs_delays ts (e ∷ es) =
    omega (arith, own_delays ts e.body, outputs_delays ts es, count_append is_delay (own ts e.body) (outputs_own ts es), sum_by-cons (λ (x : Equation). delays x.body) e es)

join_is_operator : (s : Tree) → is_join s ≡ true → is_operator s ≡ true
join_is_operator s e = or_left (is_join s) (is_delay s) e

delay_is_operator : (s : Tree) → is_delay s ≡ true → is_operator s ≡ true
delay_is_operator s e = or_right (is_join s) (is_delay s) e

few_joins_in : (n : Net) → IsNetwork n → join_count (network_trees n) ≤ 16384
few_joins_in n rules =
    omega (
      arith,
      no_more is_join (network_trees n) (network_own n) (λ s p h. own_is_among n s (join_is_operator s p) h),
      count_append is_join (lets_own [] n.lets) (outputs_own (let_trees n.lets) n.outputs),
      lets_joins [] n.lets,
      outputs_joins (let_trees n.lets) n.outputs,
      sum_by-append (λ (e : Equation). joins e.body) n.lets n.outputs,
      rules.few_joins,
    )

few_delays_in : (n : Net) → IsNetwork n → delay_count (network_trees n) ≤ 16384
few_delays_in n rules =
    omega (
      arith,
      no_more is_delay (network_trees n) (network_own n) (λ s p h. own_is_among n s (delay_is_operator s p) h),
      count_append is_delay (lets_own [] n.lets) (outputs_own (let_trees n.lets) n.outputs),
      lets_delays [] n.lets,
      outputs_delays (let_trees n.lets) n.outputs,
      sum_by-append (λ (e : Equation). delays e.body) n.lets n.outputs,
      rules.few_delays,
    )

-- the inputs in the trees of a list are all below the count

abbrev NamesBelow : ℕ → List Tree → Type 0
NamesBelow k ts = (i j : ℕ) → IsIn (Input i) (tree_in ts j) → i < k

input_is : (i j : ℕ) → Input i ≡ Input j → i ≡ j
input_is i j e = cc

input_in_delayed : (i : ℕ) (t : Tree) (c : ℕ) → IsIn (Input i) (delayed t c) → IsIn (Input i) t
input_in_delayed i t c h = go (nat_eq c 0) refl
  where
    go : (b : Bool) → nat_eq c 0 ≡ b → IsIn (Input i) t
    go true e = subst (λ b. IsIn (Input i) (if b then t else Inc t c)) e h
    go false e = elim (subst (λ b. IsIn (Input i) (if b then t else Inc t c)) e h) [ inl p ↦ absurd (cc) | inr q ↦ q ]

input_over : (k m i : ℕ) (ts : List Tree) (f : Formula) → NamesBelow k ts → IsOver k m f → IsIn (Input i) (tree_over ts f) → i < k
input_over k m i ts formula.Never b o h = absurd (cc)
input_over k m i ts (formula.Input j) b o h = subst (λ l. l < k) (sym (input_is i j h)) o
input_over k m i ts (formula.Named j) b o h = b i j h
input_over k m i ts (formula.Min x y) b o h = elim h [
  | inl e ↦ absurd (cc)
  | inr r ↦ elim r [ inl p ↦ input_over k m i ts x b o.0 p | inr q ↦ input_over k m i ts y b o.1 q ]
]
input_over k m i ts (formula.Max x y) b o h = elim h [
  | inl e ↦ absurd (cc)
  | inr r ↦ elim r [ inl p ↦ input_over k m i ts x b o.0 p | inr q ↦ input_over k m i ts y b o.1 q ]
]
input_over k m i ts (formula.Lt x y) b o h = elim h [
  | inl e ↦ absurd (cc)
  | inr r ↦ elim r [ inl p ↦ input_over k m i ts x b o.0 p | inr q ↦ input_over k m i ts y b o.1 q ]
]
input_over k m i ts (formula.Inc x c) b o h = input_over k m i ts x b o (input_in_delayed i (tree_over ts x) c h)

lets_below : (k m : ℕ) (ts : List Tree) (es : List Equation) → NamesBelow k ts → AreLets k m es → NamesBelow k (fold (λ trees e. trees ++ tree_over trees e.body ∷ []) ts es)
lets_below k m ts [] b o = b
lets_below k m ts (e ∷ es) b o =
    lets_below k (suc m) (ts ++ tree_over ts e.body ∷ []) es
    (λ i j. each_pushed (λ t. IsIn (Input i) t → i < k) ts (tree_over ts e.body) (λ l h. b i l h) (λ h. input_over k m i ts e.body b o.0 h) (λ h. absurd (cc)) j) o.1

outputs_below : (k m : ℕ) (ts : List Tree) (es : List Equation) → NamesBelow k ts → AllByRecursion (λ e. IsOver k m e.body) es → NamesBelow k (map (λ e. tree_over ts e.body) es)
outputs_below k m ts [] b o i j h = absurd (cc)
outputs_below k m ts (e ∷ es) b o i zero h = input_over k m i ts e.body b o.0 h
outputs_below k m ts (e ∷ es) b o i (suc j) h = outputs_below k m ts es b o.1 i j h

network_below : (n : Net) → IsNetwork n → NamesBelow (length n.inputs) (network_trees n)
network_below n rules =
    let none : NamesBelow (length n.inputs) [] = λ i j h. absurd (cc) in
    outputs_below (length n.inputs) (length n.lets) (let_trees n.lets) n.outputs (lets_below (length n.inputs) 0 [] n.lets none rules.lets_over) rules.outputs_over

all_from_among : (P : Tree → Type 0) (ts : List Tree) → ((t : Tree) → is_among t ts ≡ true → P t) → AllByRecursion P ts
all_from_among P [] h = tt
all_from_among P (t ∷ ts) h = (h t (or_left (same_tree t t) (is_among t ts) (same_refl t)), all_from_among P ts (λ u e. h u (or_right (same_tree u t) (is_among u ts) e)))

below_from : (k : ℕ) (t : Tree) → ((i : ℕ) → t ≡ Input i → i < k) → IsInputBelow k t
below_from k Never h = tt
below_from k (Input i) h = h i refl
below_from k (Min a b) h = tt
below_from k (Max a b) h = tt
below_from k (Lt a b) h = tt
below_from k (Inc a c) h = tt

inputs_in : (n : Net) → IsNetwork n → AllByRecursion (IsInputBelow (length n.inputs)) (distinct_subterms (network_trees n))
inputs_in n rules =
    all_from_among (IsInputBelow (length n.inputs)) (distinct_subterms (network_trees n))
    (λ t h. below_from (length n.inputs) t
    (λ i e. let f = all_among t (network_trees n) Never (among_distinct_from t (all_subterms (network_trees n)) h) in
    network_below n rules i f.0 (subst (λ u. IsIn u (tree_in (network_trees n) f.0)) e f.2)))

pub network_terms : (n : Net) → IsNetwork n → AreNetworkTerms (length n.inputs) (network_trees n)
network_terms n rules = record {
  few_joins = few_joins_in n rules;
  few_delays = few_delays_in n rules;
  short = all_short (network_trees n) (subst (AllByRecursion (λ s. s ≤ 1000000)) (sym (spans_are n)) rules.short_outputs);
  inputs = inputs_in n rules;
}
