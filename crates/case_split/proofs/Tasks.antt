-- The terms of two outputs are a task.
use Rattle.std.proofs.Common.{◌≡◌, ℕ, zero, suc, ◌+◌, ◌<◌, ◌≤◌, Bool, true, false, true≢false, ◌&&◌, List, [], ◌∷◌, ◌++◌, length, map, filter, take, refl, ap, sym, ◌∙◌, subst, arith, inl, inr, ◌⊎◌, if◌then◌else◌, get_or}
use Rattle.std.specs.Prelude.{slice_index_or}
use Rattle.std.specs.List.{AllByRecursion, All}
use Rattle.std.proofs.Math.Seq.{take-suc, take-length}
use Rattle.std.proofs.lemmas.List.{length-append}
use Rattle.std.proofs.lemmas.List.Elements.{filter-append}
use Rattle.net_model.specs.declared.assume.Assume.{Assume}
use Rattle.net_model.specs.Formula.{Net, Equation}
use Rattle.net_model.specs.Rules.{IsNetwork}
use Rattle.spike_eval.specs.Premises.{NameInputs}
use Rattle.term_store.specs.declared.node.Term.{Term}
use Rattle.term_store.specs.declared.node.Node.{Node}
use Rattle.term_store.specs.declared.node.Node.TheVariants as node
use Rattle.term_store.specs.Nodes.{node_at, IsNodes}
use Rattle.term_store.specs.Tree.{Tree, Never, Input, Min, Max, Lt, Inc, span}
use Rattle.term_store.specs.Terms.{tree_in, tree_over, let_trees, network_trees}
use Rattle.term_store.specs.Trees.{tree, trees, trees_at, IsPrefix}
use Rattle.term_store.specs.Subterms.{all_subterms, is_among, distinct_subterms, is_join, join_count, IsInputBelow, AreNetworkTerms}
use Rattle.term_store.specs.Reach.{is_reached, IsReached}
use Rattle.term_store.specs.Compacted.{reached_trees}
use Rattle.term_store.specs.Places.{places, reach_marks, is_marked, is_join_node, is_marked_with, tree_by_places}
use Rattle.term_store.proofs.ListedPlaces.{at_listed, filter_same, count, count_next, one_if}
use Rattle.term_store.proofs.Parts.{IsIn, or_either, same_is, among_all, all_among}
use Rattle.term_store.specs.Subterms.{same_tree}
use Rattle.term_store.proofs.FewTerms.{among_distinct, no_more, more_left, more_right, network_terms}
use Rattle.term_store.proofs.Counted.{follows, counts_right}
use Rattle.term_store.proofs.TreeLaws.{length-trees}
use Rattle.term_store.proofs.Marks.{count_trees}
use Rattle.term_store.proofs.Put.{let_tree, tree_more}
use Rattle.tree_check.specs.Valid.{Pair, outputs}
use Rattle.case_split.specs.Live.{pair_terms}
use Rattle.case_split.specs.Parted.{IsPart}
use Rattle.case_split.specs.Task.{IsTask, joins}

-- ---- the operators of a store that the places reach

joins_append : (ns : List Node) (n : Node) → joins (ns ++ n ∷ []) ≡ joins ns + one_if (is_join_node n)
joins_append [] n = go (is_join_node n)
  where
    go : (b : Bool) → (if b then 1 else 0) + 0 ≡ 0 + one_if b
    go true = refl
    go false = refl
joins_append (m ∷ ns) n = let rest = joins_append ns n in omega (arith, rest)

joins_counted : (ns : List Node) (k : ℕ) → k ≤ length ns → count (λ i. is_join_node (node_at ns i)) k ≡ joins (take k ns)
joins_counted ns zero le = refl
joins_counted ns (suc k) le =
    count_next (λ i. is_join_node (node_at ns i)) k
    ∙ (ap (λ c. c + one_if (is_join_node (node_at ns k))) (joins_counted ns k (omega (arith, le)))
    ∙ (sym (joins_append (take k ns) (node_at ns k)) ∙ ap joins (sym (more k le))))
  where
    more : (k : ℕ) → suc k ≤ length ns → take (suc k) ns ≡ take k ns ++ node_at ns k ∷ []
    more k le = take-suc ns k node.Never (omega (arith, le))

pub joins_are : (ns : List Node) (roots : List Term) → IsNodes ns → All (λ r. r.0 < length ns) roots → ((place : ℕ) → place < length ns → IsReached ns roots place) → joins ns ≡ join_count (trees_at ns roots)
joins_are ns roots rules within reached =
    ap joins (sym (take-length ns))
    ∙ (sym (joins_counted ns (length ns) (omega arith))
    ∙ (ap length (filter_same (λ i. is_join_node (node_at ns i)) (is_marked_with is_join_node ns (reach_marks ns roots)) (length ns) marked)
    ∙ (counts_right ns roots rules within).joins))
  where
    marked : (k : ℕ) → k < length ns → is_join_node (node_at ns k) ≡ (is_marked (reach_marks ns roots) k && is_join_node (node_at ns k))
    marked k lt = ap (λ b. b && is_join_node (node_at ns k)) (sym (at_listed (is_reached ns roots) (length ns) k false lt ∙ reached k lt))

-- ---- parts of terms

span_in : (s t : Tree) → IsIn s t → span s ≤ span t
span_in s Never u = let e = ap span u in omega (arith, e)
span_in s (Input i) u = let e = ap span u in omega (arith, e)
span_in s (Min a b) u = elim u [
  | inl e ↦ let h = ap span e in omega (arith, h)
  | inr v ↦ elim v [ inl p ↦ let h = span_in s a p in omega (arith, h) | inr p ↦ let h = span_in s b p in omega (arith, h) ]
]
span_in s (Max a b) u = elim u [
  | inl e ↦ let h = ap span e in omega (arith, h)
  | inr v ↦ elim v [ inl p ↦ let h = span_in s a p in omega (arith, h) | inr p ↦ let h = span_in s b p in omega (arith, h) ]
]
span_in s (Lt a b) u = elim u [
  | inl e ↦ let h = ap span e in omega (arith, h)
  | inr v ↦ elim v [ inl p ↦ let h = span_in s a p in omega (arith, h) | inr p ↦ let h = span_in s b p in omega (arith, h) ]
]
span_in s (Inc a c) u = elim u [
  | inl e ↦ let h = ap span e in omega (arith, h)
  | inr p ↦ let h = span_in s a p in omega (arith, h)
]

short_at : (ts : List Tree) (k : ℕ) → AllByRecursion (λ t. span t ≤ 1000000) ts → span (tree_in ts k) ≤ 1000000
short_at [] k h = omega arith
short_at (t ∷ ts) zero h = h.0
short_at (t ∷ ts) (suc k) h = short_at ts k h.1

all_from : (P : Tree → Type 0) (ts : List Tree) (s : Tree) → AllByRecursion P ts → is_among s ts ≡ true → P s
all_from P [] s a h = absurd (true≢false (sym h))
all_from P (t ∷ ts) s a h = elim (or_either (same_tree s t) (is_among s ts) h) [
  | inl e ↦ subst P (sym (same_is s t e)) a.0
  | inr e ↦ all_from P ts s a.1 e
]

-- what is in one of the two terms
EitherIn : Pair → Tree → Type 0
EitherIn pair s = IsIn s (tree_in (network_trees pair.first) pair.place) ⊎ IsIn s (tree_in (network_trees pair.second) pair.place)

either_in : (pair : Pair) (s : Tree) → is_among s (all_subterms (pair_terms pair)) ≡ true → EitherIn pair s
unfolding EitherIn
either_in pair s h = let f = all_among s (pair_terms pair) Never h in go f.0 f.1 f.2
  where
    go : (k : ℕ) → k < 2 → IsIn s (slice_index_or (pair_terms pair) k Never) → IsIn s (tree_in (network_trees pair.first) pair.place) ⊎ IsIn s (tree_in (network_trees pair.second) pair.place)
    go zero lt u = inl u
    go (suc zero) lt u = inr u
    go (suc (suc k)) lt u = absurd (omega (arith, lt))

-- both outputs are there
pub record IsAsked (pair : Pair) : Type 0 where
  pub first : IsNetwork pair.first
  pub second : IsNetwork pair.second
  pub same : length pair.first.inputs ≡ length pair.second.inputs
  pub first_has : pair.place < length (network_trees pair.first)
  pub second_has : pair.place < length (network_trees pair.second)

module _ (pair : Pair) (asked : IsAsked pair) where
  first_terms : AreNetworkTerms (length pair.first.inputs) (network_trees pair.first)
  first_terms = network_terms pair.first asked.first

  second_terms : AreNetworkTerms (length pair.first.inputs) (network_trees pair.second)
  second_terms = subst (λ n. AreNetworkTerms n (network_trees pair.second)) (sym asked.same) (network_terms pair.second asked.second)

  short_part : (s : Tree) → EitherIn pair s → span s ≤ 1000000
  unfolding EitherIn
  short_part s u = elim u [
    | inl p ↦ let a = span_in s (tree_in (network_trees pair.first) pair.place) p in let b = short_at (network_trees pair.first) pair.place first_terms.short in omega (arith, a, b)
    | inr p ↦ let a = span_in s (tree_in (network_trees pair.second) pair.place) p in let b = short_at (network_trees pair.second) pair.place second_terms.short in omega (arith, a, b)
  ]

  input_part : (i : ℕ) → EitherIn pair (Input i) → i < length pair.first.inputs
  unfolding EitherIn
  input_part i u = elim u [
    | inl p ↦ all_from (IsInputBelow (length pair.first.inputs)) (distinct_subterms (network_trees pair.first)) (Input i) first_terms.inputs (among_distinct (Input i) (all_subterms (network_trees pair.first)) (among_all (Input i) (network_trees pair.first) pair.place Never asked.first_has p))
    | inr p ↦ all_from (IsInputBelow (length pair.first.inputs)) (distinct_subterms (network_trees pair.second)) (Input i) second_terms.inputs (among_distinct (Input i) (all_subterms (network_trees pair.second)) (among_all (Input i) (network_trees pair.second) pair.place Never asked.second_has p))
  ]

  pub few_joins : join_count (pair_terms pair) ≤ 32768
  unfolding EitherIn
  few_joins =
      let a = first_terms.few_joins in
      let b = second_terms.few_joins in
      let c = no_more is_join (pair_terms pair) (distinct_subterms (network_trees pair.first) ++ distinct_subterms (network_trees pair.second)) (λ s j h. covered s (either_in pair s h)) in
      let d = ap length (filter-append is_join (distinct_subterms (network_trees pair.first)) (distinct_subterms (network_trees pair.second))) in
      let e = length-append (filter is_join (distinct_subterms (network_trees pair.first))) (filter is_join (distinct_subterms (network_trees pair.second))) in
      omega (arith, a, b, c, d, e)
    where
      covered : (s : Tree) → EitherIn pair s → is_among s (distinct_subterms (network_trees pair.first) ++ distinct_subterms (network_trees pair.second)) ≡ true
      covered s u = elim u [
        | inl p ↦ more_left s (distinct_subterms (network_trees pair.first)) (distinct_subterms (network_trees pair.second)) (among_distinct s (all_subterms (network_trees pair.first)) (among_all s (network_trees pair.first) pair.place Never asked.first_has p))
        | inr p ↦ more_right s (distinct_subterms (network_trees pair.first)) (distinct_subterms (network_trees pair.second)) (among_distinct s (all_subterms (network_trees pair.second)) (among_all s (network_trees pair.second) pair.place Never asked.second_has p))
      ]

  module _ (nodes : List Node) (first second : Term) (part : IsPart pair nodes first second) (rules : IsNodes nodes) where
    place_in : (place : ℕ) → place < length nodes → EitherIn pair (tree nodes place)
    place_in place lt = either_in pair (tree nodes place) (subst (λ ts. is_among (tree nodes place) (all_subterms ts) ≡ true) part.terms (part.reached place lt))

    pub joins_of_pair : joins nodes ≡ join_count (pair_terms pair)
    joins_of_pair = joins_are nodes (first ∷ second ∷ []) rules part.within part.reached ∙ ap join_count part.terms

    pub is_task : (n : ℕ) (premises : List Assume) → n ≡ length pair.first.inputs → length premises ≤ 128 → NameInputs (length pair.first.inputs) premises → All (λ p. p.by ≤ 1000000) premises →
        IsTask (record { inputs = n; premises = premises; nodes = nodes; roots = first ∷ second ∷ [] })
    is_task n premises e few named small = record {
      some_inputs = let h = asked.first.some_input in omega (arith, e, h);
      few_inputs = let h = asked.first.few_inputs in omega (arith, e, h);
      few_premises = few;
      named = subst (λ m. NameInputs m premises) (sym e) named;
      small_premises = small;
      is_nodes = rules;
      two = refl;
      within = part.within;
      reached = part.reached;
      short = λ place lt. short_part (tree nodes place) (place_in place lt);
      inputs_are = λ place i lt is. let b = input_part i (subst (EitherIn pair) (follows nodes place rules lt ∙ ap (tree_by_places nodes) is) (place_in place lt)) in omega (arith, e, b);
      few_joins = let a = joins_of_pair in let b = few_joins in omega (arith, a, b);
    }

-- ---- a part of a store

at_filtered : (test : ℕ → Bool) (ps : List ℕ) (k d : ℕ) → k < length (filter test ps) → test (get_or (filter test ps) k d) ≡ true
at_filtered test [] k d lt = absurd (omega (arith, lt))
at_filtered test (p ∷ ps) k d lt = go (test p) refl k lt (λ k. at_filtered test ps k d)
  where
    go : (b : Bool) → test p ≡ b → (k : ℕ) → k < length (if b then p ∷ filter test ps else filter test ps) → ((k : ℕ) → k < length (filter test ps) → test (get_or (filter test ps) k d) ≡ true) →
        test (get_or (if b then p ∷ filter test ps else filter test ps) k d) ≡ true
    go true e zero lt again = e
    go true e (suc k) lt again = again k (omega (arith, lt))
    go false e k lt again = again k lt

at_map : (f : ℕ → Tree) (ps : List ℕ) (k d : ℕ) → k < length ps → tree_in (map f ps) k ≡ f (get_or ps k d)
at_map f [] k d lt = absurd (omega (arith, lt))
at_map f (p ∷ ps) zero d lt = refl
at_map f (p ∷ ps) (suc k) d lt = at_map f ps k d (omega (arith, lt))

length_map : (f : ℕ → Tree) (ps : List ℕ) → length (map f ps) ≡ length ps
length_map f [] = refl
length_map f (p ∷ ps) = ap suc (length_map f ps)

pub part_reached : (nodes new : List Node) (roots moved : List Term) → trees new ≡ reached_trees nodes roots → trees_at new moved ≡ trees_at nodes roots → (place : ℕ) → place < length new → IsReached new moved place
part_reached nodes new roots moved e h place lt =
    let ps = filter (is_reached nodes roots) (places (length nodes)) in
    let long : length new ≡ length ps = sym (length-trees new) ∙ (ap length e ∙ length_map (tree nodes) ps) in
    let within : place < length ps = omega (arith, long, lt) in
    let is : tree new place ≡ tree nodes (get_or ps place 0) = ap (λ ts. tree_in ts place) e ∙ at_map (tree nodes) ps place 0 within in
    ap (λ t. is_among t (all_subterms (trees_at new moved))) is
    ∙ (ap (λ ts. is_among (tree nodes (get_or ps place 0)) (all_subterms ts)) h ∙ at_filtered (is_reached nodes roots) (places (length nodes)) place 0 within)

length_outputs : (n : Net) → length (network_trees n) ≡ length n.outputs
length_outputs n = go n.outputs
  where
    go : (es : List Equation) → length (map (λ e. tree_over (let_trees n.lets) e.body) es) ≡ length es
    go [] = refl
    go (e ∷ es) = ap suc (go es)

pub asked_of : (first second : Net) (out : ℕ) → IsNetwork first → IsNetwork second → length first.inputs ≡ length second.inputs → out < length first.outputs → out < length second.outputs → IsAsked (outputs first second out)
asked_of first second out rules rules' same lt lt' = record {
  first = rules;
  second = rules';
  same = same;
  first_has = let e = length_outputs first in omega (arith, e, lt);
  second_has = let e = length_outputs second in omega (arith, e, lt');
}

output_place : (n : Net) (nodes : List Node) (ps : List Term) (out : ℕ) → trees_at nodes ps ≡ network_trees n → out < length n.outputs → out < length ps
output_place n nodes ps out e lt = let a = count_trees nodes ps in let b = ap length e in let c = length_outputs n in omega (arith, a, b, c, lt)

output_tree : (n : Net) (nodes : List Node) (ps : List Term) (out : ℕ) (p : Term) → trees_at nodes ps ≡ network_trees n → out < length n.outputs → p ≡ get_or ps out p → tree nodes p.0 ≡ tree_in (network_trees n) out
output_tree n nodes ps out p e lt is =
    ap (λ (t : Term). tree nodes t.0) is
    ∙ (sym (let_tree nodes ps out p (output_place n nodes ps out e lt)) ∙ ap (λ ts. tree_in ts out) e)

pair_is : (places : List Term) (r s : Term) → length places ≡ 2 → r ≡ get_or places 0 r → s ≡ get_or places 1 s → places ≡ r ∷ s ∷ []
pair_is [] r s e a b = absurd (omega (arith, e))
pair_is (x ∷ []) r s e a b = absurd (omega (arith, e))
pair_is (x ∷ y ∷ []) r s e a b = λ i. sym a i ∷ sym b i ∷ []
pair_is (x ∷ y ∷ z ∷ places) r s e a b = absurd (omega (arith, e))

pub is_part : (first second : Net) (out : ℕ) (one two new : List Node) (ps qs places : List Term) (p q r s : Term) →
    trees_at one ps ≡ network_trees first → All (λ t. t.0 < length one) ps → p ≡ get_or ps out p → out < length first.outputs → IsPrefix one two →
    trees_at two qs ≡ network_trees second → q ≡ get_or qs out q → out < length second.outputs →
    trees new ≡ reached_trees two (p ∷ q ∷ []) → trees_at new places ≡ tree two p.0 ∷ tree two q.0 ∷ [] → All (λ t. t.0 < length new) places → r ≡ get_or places 0 r → s ≡ get_or places 1 s →
    IsPart (outputs first second out) new r s
is_part first second out one two new ps qs places p q r s terms within p_is lt prefix terms' q_is lt' new_is moved within' r_is s_is = record {
  within = subst (λ ts. All (λ t. t.0 < length new) ts) are within';
  reached = part_reached two new (p ∷ q ∷ []) (r ∷ s ∷ []) new_is trees_are;
  terms = trees_are ∙ (λ i. first_is i ∷ second_is i ∷ []);
}
  where
    are : places ≡ r ∷ s ∷ []
    are = pair_is places r s (sym (count_trees new places) ∙ ap length moved) r_is s_is

    trees_are : trees_at new (r ∷ s ∷ []) ≡ tree two p.0 ∷ tree two q.0 ∷ []
    trees_are = ap (trees_at new) (sym are) ∙ moved

    p_within : p.0 < length one
    p_within = subst (λ (t : Term). t.0 < length one) (sym p_is) (within out p (output_place first one ps out terms lt))

    first_is : tree two p.0 ≡ tree_in (network_trees first) out
    first_is = tree_more one two p.0 prefix p_within ∙ output_tree first one ps out p terms lt p_is

    second_is : tree two q.0 ≡ tree_in (network_trees second) out
    second_is = output_tree second two qs out q terms' lt' q_is
