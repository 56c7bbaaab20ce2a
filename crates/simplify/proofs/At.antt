-- The tests of terms, over places.
use Rattle.std.proofs.Common.{◌≡◌, ℕ, ◌<◌, ◌≤◌, refl, ap, subst, arith, sym, ◌∙◌, true, false, nat_eq, length, List}
use Rattle.std.proofs.lemmas.Bool.Decides.{nat_tests}
use Rattle.std.specs.Cmp.{both_ways}
use Rattle.term_store.specs.Subterms.{same_tree}
use Rattle.term_store.specs.declared.node.Term.{Term}
use Rattle.term_store.specs.declared.node.Node.{Node}
use Rattle.term_store.specs.declared.node.Node.TheVariants.{Never, Min, Max, Lt, Inc}
use Rattle.term_store.specs.Nodes.{node_at, IsNodeOver, IsNodes}
use Rattle.term_store.specs.Trees.{tree}
use Rattle.term_store.specs.Places.{tree_by_places}
use Rattle.term_store.proofs.Distinct.{distinct_trees}
use Rattle.term_store.proofs.Counted.{follows}
use Rattle.term_store.proofs.Parts.{same_refl, same_is}
use Rattle.simplify.specs.Simplified.{is_never, is_max_of, is_min_of, is_lt_of, is_lt_before, is_inc_of}
use Rattle.simplify.specs.Outcomes.{max_names, min_names, lt_names, before_names, inc_names, IsNoMax, IsNoMin, IsNoLt, IsNoInc}

eq_is : (a b : ℕ) → nat_eq a b ≡ true → a ≡ b
eq_is a b e = grind (arith, nat_tests)

eq_of : (a b : ℕ) → a ≡ b → nat_eq a b ≡ true
eq_of a b e = grind (arith, nat_tests)

-- places are the same exactly where their trees are
pub same_at : (ns : List Node) (a b : ℕ) → IsNodes ns → a < length ns → b < length ns → nat_eq a b ≡ same_tree (tree ns a) (tree ns b)
same_at ns a b s ha hb = both_ways (nat_eq a b) (same_tree (tree ns a) (tree ns b))
    (λ e. subst (λ k. same_tree (tree ns a) (tree ns k) ≡ true) (eq_is a b e) (same_refl (tree ns a)))
    (λ e. eq_of a b (distinct_trees ns s a b ha hb (same_is _ _ e)))

-- the tree of a place whose node is known
pub shape_at : (ns : List Node) (b : ℕ) (n : Node) → IsNodes ns → b < length ns → n ≡ node_at ns b → (tree ns b ≡ tree_by_places ns n) × IsNodeOver b n
shape_at ns b n s h e = (follows ns b s h ∙ ap (tree_by_places ns) (sym e), subst (IsNodeOver b) (sym e) (s.lower b h))

pub no_never : (ns : List Node) (n : Node) → (n ≡ Never → ⊥) → false ≡ is_never (tree_by_places ns n)
no_never ns Never h = absurd (h refl)
no_never ns n h = refl

max_over : (ns : List Node) (a m : ℕ) (n : Node) → IsNodes ns → a < length ns → m ≤ length ns → IsNodeOver m n → max_names a n ≡ is_max_of (tree ns a) (tree_by_places ns n)
max_over ns a m (Max x y) s ha hm o =
    let p = same_at ns a x.0 s ha (omega (arith, o.0)) in
    let q = same_at ns a y.0 s ha (omega (arith, o.1)) in cc
max_over ns a m n s ha hm o = refl

pub max_at : (ns : List Node) (a b : ℕ) → IsNodes ns → a < length ns → b < length ns → max_names a (node_at ns b) ≡ is_max_of (tree ns a) (tree ns b)
max_at ns a b s ha hb = max_over ns a b (node_at ns b) s ha (omega arith) (s.lower b hb) ∙ ap (is_max_of (tree ns a)) (sym (follows ns b s hb))

min_over : (ns : List Node) (a m : ℕ) (n : Node) → IsNodes ns → a < length ns → m ≤ length ns → IsNodeOver m n → min_names a n ≡ is_min_of (tree ns a) (tree_by_places ns n)
min_over ns a m (Min x y) s ha hm o =
    let p = same_at ns a x.0 s ha (omega (arith, o.0)) in
    let q = same_at ns a y.0 s ha (omega (arith, o.1)) in cc
min_over ns a m n s ha hm o = refl

pub min_at : (ns : List Node) (a b : ℕ) → IsNodes ns → a < length ns → b < length ns → min_names a (node_at ns b) ≡ is_min_of (tree ns a) (tree ns b)
min_at ns a b s ha hb = min_over ns a b (node_at ns b) s ha (omega arith) (s.lower b hb) ∙ ap (is_min_of (tree ns a)) (sym (follows ns b s hb))

lt_over : (ns : List Node) (a m : ℕ) (n : Node) → IsNodes ns → a < length ns → m ≤ length ns → IsNodeOver m n → lt_names a n ≡ is_lt_of (tree ns a) (tree_by_places ns n)
lt_over ns a m (Lt x y) s ha hm o = same_at ns a x.0 s ha (omega (arith, o.0))
lt_over ns a m n s ha hm o = refl

pub lt_at : (ns : List Node) (a b : ℕ) → IsNodes ns → a < length ns → b < length ns → lt_names a (node_at ns b) ≡ is_lt_of (tree ns a) (tree ns b)
lt_at ns a b s ha hb = lt_over ns a b (node_at ns b) s ha (omega arith) (s.lower b hb) ∙ ap (is_lt_of (tree ns a)) (sym (follows ns b s hb))

before_over : (ns : List Node) (a m : ℕ) (n : Node) → IsNodes ns → a < length ns → m ≤ length ns → IsNodeOver m n → before_names a n ≡ is_lt_before (tree ns a) (tree_by_places ns n)
before_over ns a m (Lt x y) s ha hm o = same_at ns a y.0 s ha (omega (arith, o.1))
before_over ns a m n s ha hm o = refl

pub before_at : (ns : List Node) (a b : ℕ) → IsNodes ns → a < length ns → b < length ns → before_names a (node_at ns b) ≡ is_lt_before (tree ns a) (tree ns b)
before_at ns a b s ha hb = before_over ns a b (node_at ns b) s ha (omega arith) (s.lower b hb) ∙ ap (is_lt_before (tree ns a)) (sym (follows ns b s hb))

inc_over : (ns : List Node) (a m : ℕ) (n : Node) → IsNodes ns → a < length ns → m ≤ length ns → IsNodeOver m n → inc_names a n ≡ is_inc_of (tree ns a) (tree_by_places ns n)
inc_over ns a m (Inc x c) s ha hm o = same_at ns a x.0 s ha (omega (arith, o.0))
inc_over ns a m n s ha hm o = refl

pub inc_at : (ns : List Node) (a b : ℕ) → IsNodes ns → a < length ns → b < length ns → inc_names a (node_at ns b) ≡ is_inc_of (tree ns a) (tree ns b)
inc_at ns a b s ha hb = inc_over ns a b (node_at ns b) s ha (omega arith) (s.lower b hb) ∙ ap (is_inc_of (tree ns a)) (sym (follows ns b s hb))

pub no_max : (ns : List Node) (n : Node) → ((x y : Term) → n ≡ Max x y → ⊥) → IsNoMax (tree_by_places ns n)
no_max ns (Max x y) h = absurd (h x y refl)
no_max ns n h = tt

pub no_min : (ns : List Node) (n : Node) → ((x y : Term) → n ≡ Min x y → ⊥) → IsNoMin (tree_by_places ns n)
no_min ns (Min x y) h = absurd (h x y refl)
no_min ns n h = tt

pub no_lt : (ns : List Node) (n : Node) → ((x y : Term) → n ≡ Lt x y → ⊥) → IsNoLt (tree_by_places ns n)
no_lt ns (Lt x y) h = absurd (h x y refl)
no_lt ns n h = tt

pub no_inc : (ns : List Node) (n : Node) → ((x : Term) (c : ℕ) → n ≡ Inc x c → ⊥) → IsNoInc (tree_by_places ns n)
no_inc ns (Inc x c) h = absurd (h x c refl)
no_inc ns n h = tt
