-- No two places have one tree.
use Rattle.std.proofs.Common.{◌≡◌, ℕ, zero, suc, ◌<◌, ◌+◌, refl, ap, subst, arith, sym, ◌∙◌, length, List, [], ◌∷◌, ◌++◌, take, drop, length-append, true, true≢false, inl, inr}
use Rattle.std.proofs.lemmas.Grind.{common_steps}
use Rattle.std.proofs.lemmas.Bool.{cases_lt}
use Rattle.std.proofs.lemmas.List.{take-append-drop, drop_more, append_assoc}
use Rattle.std.proofs.lemmas.List.Sums.{passes_at_first, fails_before_first}
use Rattle.term_store.specs.Tree.{Tree}
use Rattle.term_store.specs.Terms.{tree_in}
use Rattle.term_store.specs.declared.node.Node.{Node}
use Rattle.term_store.specs.declared.node.Node.TheVariants as node
use Rattle.term_store.specs.Nodes.{node_at, same_node, place_of, IsNodeOver, IsNodes}
use Rattle.term_store.specs.Trees.{node_tree, trees, tree}
use Rattle.term_store.proofs.Same.{one_term, same_is, same_refl}
use Rattle.term_store.proofs.TreeLaws.{tree_prefix, tree_last, over_agree}

-- a list around a place
parts : (ns : List Node) (i : ℕ) → i < length ns → (take i ns ++ node_at ns i ∷ []) ++ drop (i + 1) ns ≡ ns
parts ns i h = append_assoc (take i ns) (node_at ns i ∷ []) (drop (i + 1) ns) ∙ ap (λ xs. take i ns ++ xs) (sym (drop_more ns i node.Never h)) ∙ take-append-drop i ns

length_take : (ns : List Node) (i : ℕ) → i < length ns → length (take i ns) ≡ i
length_take ns i h = grind (arith, common_steps)

-- the trees of the first places are those of all
first_trees : (ns : List Node) (i k : ℕ) → i < length ns → k < i → tree (take i ns) k ≡ tree ns k
first_trees ns i k h b =
    sym (tree_prefix (take i ns) (drop i ns) k (omega (arith, length_take ns i h))) ∙ ap (λ xs. tree xs k) (take-append-drop i ns)

-- the tree of a place is over the trees of its operands
pub tree_is : (ns : List Node) (i : ℕ) → IsNodes ns → i < length ns → tree ns i ≡ node_tree (trees ns) (node_at ns i)
tree_is ns i s h =
    let len : length (take i ns) ≡ i = length_take ns i h in
    let n = node_at ns i in
    let front = take i ns in
    ap (λ xs. tree xs i) (sym (parts ns i h))
    ∙ tree_prefix (front ++ n ∷ []) (drop (i + 1) ns) i (omega (arith, len, length-append front (n ∷ [])))
    ∙ subst (λ k. tree (front ++ n ∷ []) k ≡ node_tree (trees front) n) len (tree_last front n)
    ∙ over_agree i (trees front) (trees ns) n (s.lower i h) (λ k b. first_trees ns i k h b)

-- nodes over distinct trees have different trees
pub over_inj : (ts : List Tree) (k m : ℕ) (n o : Node) → IsNodeOver k n → IsNodeOver m o → ((a b : ℕ) → a < k → b < m → tree_in ts a ≡ tree_in ts b → a ≡ b)
    → node_tree ts n ≡ node_tree ts o → n ≡ o
over_inj ts k m (node.Input i) (node.Input j) hn ho d e = cc
over_inj ts k m node.Never node.Never hn ho d e = refl
over_inj ts k m (node.Min a b) (node.Min x y) hn ho d e =
    let p : tree_in ts a.0 ≡ tree_in ts x.0 = cc in
    let q : tree_in ts b.0 ≡ tree_in ts y.0 = cc in
    let p2 = one_term a x (d a.0 x.0 hn.0 ho.0 p) in
    let q2 = one_term b y (d b.0 y.0 hn.1 ho.1 q) in cc
over_inj ts k m (node.Max a b) (node.Max x y) hn ho d e =
    let p : tree_in ts a.0 ≡ tree_in ts x.0 = cc in
    let q : tree_in ts b.0 ≡ tree_in ts y.0 = cc in
    let p2 = one_term a x (d a.0 x.0 hn.0 ho.0 p) in
    let q2 = one_term b y (d b.0 y.0 hn.1 ho.1 q) in cc
over_inj ts k m (node.Lt a b) (node.Lt x y) hn ho d e =
    let p : tree_in ts a.0 ≡ tree_in ts x.0 = cc in
    let q : tree_in ts b.0 ≡ tree_in ts y.0 = cc in
    let p2 = one_term a x (d a.0 x.0 hn.0 ho.0 p) in
    let q2 = one_term b y (d b.0 y.0 hn.1 ho.1 q) in cc
over_inj ts k m (node.Inc a c) (node.Inc x y) hn ho d e =
    let p : tree_in ts a.0 ≡ tree_in ts x.0 = cc in
    let p2 = one_term a x (d a.0 x.0 hn.0 ho.0 p) in
    let q : c ≡ y = cc in cc
over_inj ts k m n o hn ho d e = cc

distinct_below : (ns : List Node) → IsNodes ns → (k i j : ℕ) → i < k → i < length ns → j < length ns → tree ns i ≡ tree ns j → i ≡ j
distinct_below ns s zero i j b hi hj e = absurd (omega arith)
distinct_below ns s (suc k) i j b hi hj e =
    s.distinct i j hi hj (over_inj (trees ns) i j _ _ (s.lower i hi) (s.lower j hj)
    (λ x y hx hy f. distinct_below ns s k x y (omega arith) (omega arith) (omega arith) f)
    (sym (tree_is ns i s hi) ∙ e ∙ tree_is ns j s hj))

-- no two places have one tree
pub distinct_trees : (ns : List Node) → IsNodes ns → (i j : ℕ) → i < length ns → j < length ns → tree ns i ≡ tree ns j → i ≡ j
distinct_trees ns s i j hi hj e = distinct_below ns s (suc i) i j (omega arith) hi hj e

-- a node's place is where it is
pub place_at : (ns : List Node) (n : Node) (i : ℕ) → IsNodes ns → i < length ns → node_at ns i ≡ n → place_of ns n ≡ i
place_at ns n i s h e =
    let here : same_node n (node_at ns i) ≡ true = subst (λ m. same_node n m ≡ true) (sym e) (same_refl n) in
    elim (cases_lt (place_of ns n) (length ns)) [
      | inl w ↦ s.distinct (place_of ns n) i w h (sym (same_is _ _ (passes_at_first (same_node n) ns node.Never w)) ∙ sym e)
      | inr past ↦ absurd (true≢false (sym here ∙ fails_before_first (same_node n) ns i node.Never (omega arith)))
    ]
