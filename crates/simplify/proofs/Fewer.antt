-- Simplified terms have no more distinct operators, and keep the rules of networks.
use Rattle.std.proofs.Common.{◌≡◌, ℕ, zero, suc, ◌<◌, ◌≤◌, refl, ap, subst, arith, sym, ◌∙◌, Bool, true, false, true≢false, if◌then◌else◌, length, List, [], ◌∷◌, map, filter, inl, inr}
use Rattle.std.specs.List.{AllByRecursion, slice_index_or}
use Rattle.std.proofs.lemmas.List.{length-map}
use Rattle.term_store.specs.Tree.{Tree, Never, Input, Min, Max, Lt, Inc, span}
use Rattle.term_store.specs.Subterms.{is_among, all_subterms, same_tree, distinct_subterms, is_join, is_delay, join_count, delay_count, IsInputBelow, AreNetworkTerms}
use Rattle.term_store.proofs.Parts.{IsIn, or_left, or_right, or_either, among_all, all_among, same_from, same_is}
use Rattle.term_store.proofs.FewTerms.{no_more, among_distinct, among_distinct_from, among_filter, and_both}
use Rattle.simplify.specs.Simplified.{simplified}
use Rattle.simplify.proofs.Stepping.{kind}
use Rattle.simplify.proofs.Simp.{simp_good}
use Rattle.simplify.proofs.Inside.{stands_for, input_in}

filter_le : (p : Tree → Bool) (ts : List Tree) → length (filter p ts) ≤ length ts
filter_le p [] = omega arith
filter_le p (t ∷ ts) = go (p t) refl (filter_le p ts)
  where
    go : (b : Bool) → p t ≡ b → length (filter p ts) ≤ length ts → length (filter p (t ∷ ts)) ≤ length (t ∷ ts)
    go true e rest = subst (λ b. length (if b then t ∷ filter p ts else filter p ts) ≤ length (t ∷ ts)) (sym e) (omega (arith, rest))
    go false e rest = subst (λ b. length (if b then t ∷ filter p ts else filter p ts) ≤ length (t ∷ ts)) (sym e) (omega (arith, rest))

among_mapped : (u : Tree) (ts : List Tree) → is_among u ts ≡ true → is_among (simplified u) (map simplified ts) ≡ true
among_mapped u [] h = h
among_mapped u (t ∷ ts) h = elim (or_either (same_tree u t) (is_among u ts) h) [
  | inl e ↦ or_left (same_tree (simplified u) (simplified t)) (is_among (simplified u) (map simplified ts)) (same_from (simplified u) (simplified t) (ap simplified (same_is u t e)))
  | inr k ↦ or_right (same_tree (simplified u) (simplified t)) (is_among (simplified u) (map simplified ts)) (among_mapped u ts k)
]

get_mapped : (ts : List Tree) (k : ℕ) (d e : Tree) → k < length ts → slice_index_or (map simplified ts) k d ≡ simplified (slice_index_or ts k e)
get_mapped [] k d e h = absurd (omega (arith, h))
get_mapped (t ∷ ts) zero d e h = refl
get_mapped (t ∷ ts) (suc k) d e h = get_mapped ts k d e (omega (arith, h))

-- terms of one kind, once simplified, are no more
fewer : (p : Tree → Bool) (k : ℕ) → 1 ≤ k → ((s : Tree) → p s ≡ true → kind s ≡ k) → ((s : Tree) → kind s ≡ k → p s ≡ true) → (ts : List Tree)
    → length (filter p (distinct_subterms (map simplified ts))) ≤ length (filter p (distinct_subterms ts))
fewer p k pos to from ts =
    let own = filter p (distinct_subterms ts) in
    let covers : (s : Tree) → p s ≡ true → is_among s (all_subterms (map simplified ts)) ≡ true → is_among s (map simplified own) ≡ true = λ s q h.
    (let f = all_among s (map simplified ts) Never h in
    let w : f.0 < length ts = omega (arith, f.1, length-map ts simplified) in
    let i : IsIn s (simplified (slice_index_or ts f.0 Never)) = subst (IsIn s) (get_mapped ts f.0 Never Never w) f.2 in
    let m = stands_for (slice_index_or ts f.0 Never) s k pos (to s q) i in
    let a : is_among m.0 own ≡ true =
    among_filter p m.0 (distinct_subterms ts) ∙ and_both (p m.0) (is_among m.0 (distinct_subterms ts)) (from m.0 m.2) (among_distinct m.0 (all_subterms ts) (among_all m.0 ts f.0 Never w m.1)) in
    subst (λ v. is_among v (map simplified own) ≡ true) m.3 (among_mapped m.0 own a)) in
    omega (arith, no_more p (map simplified ts) (map simplified own) covers, filter_le p (map simplified own), length-map own simplified)

join_kind : (s : Tree) → is_join s ≡ true → kind s ≡ 1
join_kind (Min a b) e = refl
join_kind (Max a b) e = refl
join_kind (Lt a b) e = refl
join_kind s e = absurd (true≢false (sym e))

kind_join : (s : Tree) → kind s ≡ 1 → is_join s ≡ true
kind_join (Min a b) e = refl
kind_join (Max a b) e = refl
kind_join (Lt a b) e = refl
kind_join Never e = absurd (omega (arith, e))
kind_join (Input i) e = absurd (omega (arith, e))
kind_join (Inc a c) e = absurd (omega (arith, e))

delay_kind : (s : Tree) → is_delay s ≡ true → kind s ≡ 2
delay_kind (Inc a c) e = refl
delay_kind s e = absurd (true≢false (sym e))

kind_delay : (s : Tree) → kind s ≡ 2 → is_delay s ≡ true
kind_delay (Inc a c) e = refl
kind_delay Never e = absurd (omega (arith, e))
kind_delay (Input i) e = absurd (omega (arith, e))
kind_delay (Min a b) e = absurd (omega (arith, e))
kind_delay (Max a b) e = absurd (omega (arith, e))
kind_delay (Lt a b) e = absurd (omega (arith, e))

pub fewer_joins : (ts : List Tree) → join_count (map simplified ts) ≤ join_count ts
fewer_joins ts = fewer is_join 1 (omega arith) join_kind kind_join ts

pub fewer_delays : (ts : List Tree) → delay_count (map simplified ts) ≤ delay_count ts
fewer_delays ts = fewer is_delay 2 (omega arith) delay_kind kind_delay ts

all_from_among : (P : Tree → Type 0) (ts : List Tree) → ((t : Tree) → is_among t ts ≡ true → P t) → AllByRecursion P ts
all_from_among P [] h = tt
all_from_among P (t ∷ ts) h =
    (h t (or_left (same_tree t t) (is_among t ts) (same_from t t refl)), all_from_among P ts (λ u k. h u (or_right (same_tree u t) (is_among u ts) k)))

among_all_holds : (P : Tree → Type 0) (ts : List Tree) (s : Tree) → AllByRecursion P ts → is_among s ts ≡ true → P s
among_all_holds P [] s a h = absurd (true≢false (sym h))
among_all_holds P (t ∷ ts) s a h = elim (or_either (same_tree s t) (is_among s ts) h) [
  | inl e ↦ subst P (sym (same_is s t e)) a.0
  | inr k ↦ among_all_holds P ts s a.1 k
]

still_short : (ts : List Tree) → AllByRecursion (λ t. span t ≤ 1000000) ts → AllByRecursion (λ t. span t ≤ 1000000) (map simplified ts)
still_short [] h = tt
still_short (t ∷ ts) h = (omega (arith, (simp_good t).no_longer, h.0), still_short ts h.1)

input_below : (count : ℕ) (ts : List Tree) (s : Tree) → AllByRecursion (IsInputBelow count) (distinct_subterms ts) → is_among s (all_subterms (map simplified ts)) ≡ true → IsInputBelow count s
input_below count ts (Input i) a h =
    let f = all_among (Input i) (map simplified ts) Never h in
    let w : f.0 < length ts = omega (arith, f.1, length-map ts simplified) in
    let k = input_in i (slice_index_or ts f.0 Never) (subst (IsIn (Input i)) (get_mapped ts f.0 Never Never w) f.2) in
    among_all_holds (IsInputBelow count) (distinct_subterms ts) (Input i) a (among_distinct (Input i) (all_subterms ts) (among_all (Input i) ts f.0 Never w k))
input_below count ts s a h = tt

-- simplified terms of a network are terms of a network
pub still_network_terms : (count : ℕ) (ts : List Tree) → AreNetworkTerms count ts → AreNetworkTerms count (map simplified ts)
still_network_terms count ts n = record {
  few_joins = omega (arith, fewer_joins ts, n.few_joins);
  few_delays = omega (arith, fewer_delays ts, n.few_delays);
  short = still_short ts n.short;
  inputs = all_from_among (IsInputBelow count) (distinct_subterms (map simplified ts)) (λ s h. input_below count ts s n.inputs (among_distinct_from s (all_subterms (map simplified ts)) h));
}
