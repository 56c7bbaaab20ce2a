-- What planting a tree leaves.
use Rattle.std.proofs.Common.{◌≡◌, ℕ, ◌<◌, ◌≤◌, ◌+◌, refl, ap, subst, arith, sym, ◌∙◌, length, List, [], ◌∷◌, length-append, append-nil, Bool, true, false, if◌then◌else◌}
use Rattle.term_store.specs.Tree.{Tree, Never, Input, Min, Max, Lt, Inc}
use Rattle.term_store.specs.declared.node.Node.{Node}
use Rattle.term_store.specs.declared.node.Node.TheVariants as node
use Rattle.term_store.specs.Nodes.{node_at, holds, place_of, with_node, IsNodeOver, IsNodes}
use Rattle.term_store.specs.Trees.{node_tree, trees, tree, term, place, IsHeld, IsPrefix}
use Rattle.term_store.specs.Planting.{cost}
use Rattle.term_store.proofs.Same.{one_term}
use Rattle.term_store.proofs.Push.{push_nodes, with_new, with_held, held_place}
use Rattle.term_store.proofs.TreeLaws.{tree_last}
use Rattle.term_store.proofs.Distinct.{tree_is, place_at}

-- the tree at a place has that place, where its operands' trees have theirs
abbrev HasPlace : List Node → Tree → Type 0
HasPlace ns t = (i : ℕ) → i < length ns → tree ns i ≡ t → place ns t ≡ i

place_Min : (ns : List Node) (a b : Tree) (i : ℕ) (n : Node) → IsNodes ns → i < length ns → HasPlace ns a → HasPlace ns b → node_at ns i ≡ n → node_tree (trees ns) n ≡ Min a b
    → place_of ns (node.Min (term (place ns a)) (term (place ns b))) ≡ i
place_Min ns a b i (node.Min x y) s h pa pb at f =
    let o : IsNodeOver i (node.Min x y) = subst (IsNodeOver i) at (s.lower i h) in
    let ea : tree ns x.0 ≡ a = cc in
    let eb : tree ns y.0 ≡ b = cc in
    let p = one_term x (term (place ns a)) (sym (pa x.0 (omega (arith, o.0)) ea)) in
    let q = one_term y (term (place ns b)) (sym (pb y.0 (omega (arith, o.1)) eb)) in
    let r : node.Min x y ≡ node.Min (term (place ns a)) (term (place ns b)) = cc in
    place_at ns (node.Min (term (place ns a)) (term (place ns b))) i s h (at ∙ r)
place_Min ns a b i n s h pa pb at f = cc

place_Max : (ns : List Node) (a b : Tree) (i : ℕ) (n : Node) → IsNodes ns → i < length ns → HasPlace ns a → HasPlace ns b → node_at ns i ≡ n → node_tree (trees ns) n ≡ Max a b
    → place_of ns (node.Max (term (place ns a)) (term (place ns b))) ≡ i
place_Max ns a b i (node.Max x y) s h pa pb at f =
    let o : IsNodeOver i (node.Max x y) = subst (IsNodeOver i) at (s.lower i h) in
    let ea : tree ns x.0 ≡ a = cc in
    let eb : tree ns y.0 ≡ b = cc in
    let p = one_term x (term (place ns a)) (sym (pa x.0 (omega (arith, o.0)) ea)) in
    let q = one_term y (term (place ns b)) (sym (pb y.0 (omega (arith, o.1)) eb)) in
    let r : node.Max x y ≡ node.Max (term (place ns a)) (term (place ns b)) = cc in
    place_at ns (node.Max (term (place ns a)) (term (place ns b))) i s h (at ∙ r)
place_Max ns a b i n s h pa pb at f = cc

place_Lt : (ns : List Node) (a b : Tree) (i : ℕ) (n : Node) → IsNodes ns → i < length ns → HasPlace ns a → HasPlace ns b → node_at ns i ≡ n → node_tree (trees ns) n ≡ Lt a b
    → place_of ns (node.Lt (term (place ns a)) (term (place ns b))) ≡ i
place_Lt ns a b i (node.Lt x y) s h pa pb at f =
    let o : IsNodeOver i (node.Lt x y) = subst (IsNodeOver i) at (s.lower i h) in
    let ea : tree ns x.0 ≡ a = cc in
    let eb : tree ns y.0 ≡ b = cc in
    let p = one_term x (term (place ns a)) (sym (pa x.0 (omega (arith, o.0)) ea)) in
    let q = one_term y (term (place ns b)) (sym (pb y.0 (omega (arith, o.1)) eb)) in
    let r : node.Lt x y ≡ node.Lt (term (place ns a)) (term (place ns b)) = cc in
    place_at ns (node.Lt (term (place ns a)) (term (place ns b))) i s h (at ∙ r)
place_Lt ns a b i n s h pa pb at f = cc

place_Inc : (ns : List Node) (a : Tree) (c i : ℕ) (n : Node) → IsNodes ns → i < length ns → HasPlace ns a → node_at ns i ≡ n → node_tree (trees ns) n ≡ Inc a c
    → place_of ns (node.Inc (term (place ns a)) c) ≡ i
place_Inc ns a c i (node.Inc x d) s h pa at f =
    let o : IsNodeOver i (node.Inc x d) = subst (IsNodeOver i) at (s.lower i h) in
    let ea : tree ns x.0 ≡ a = cc in
    let p = one_term x (term (place ns a)) (sym (pa x.0 (omega (arith, o.0)) ea)) in
    let q : d ≡ c = cc in
    let r : node.Inc x d ≡ node.Inc (term (place ns a)) c = cc in
    place_at ns (node.Inc (term (place ns a)) c) i s h (at ∙ r)
place_Inc ns a c i n s h pa at f = cc

place_Input : (ns : List Node) (k i : ℕ) (n : Node) → IsNodes ns → i < length ns → node_at ns i ≡ n → node_tree (trees ns) n ≡ Input k → place_of ns (node.Input k) ≡ i
place_Input ns k i (node.Input j) s h at f = let q : j ≡ k = cc in place_at ns (node.Input k) i s h (at ∙ ap node.Input q)
place_Input ns k i n s h at f = cc

place_Never : (ns : List Node) (i : ℕ) (n : Node) → IsNodes ns → i < length ns → node_at ns i ≡ n → node_tree (trees ns) n ≡ Never → place_of ns node.Never ≡ i
place_Never ns i node.Never s h at f = place_at ns node.Never i s h at
place_Never ns i n s h at f = cc

pub place_tree : (ns : List Node) (t : Tree) (i : ℕ) → IsNodes ns → i < length ns → tree ns i ≡ t → place ns t ≡ i
place_tree ns (Input k) i s h e = place_Input ns k i (node_at ns i) s h refl (sym (tree_is ns i s h) ∙ e)
place_tree ns Never i s h e = place_Never ns i (node_at ns i) s h refl (sym (tree_is ns i s h) ∙ e)
place_tree ns (Min a b) i s h e =
    place_Min ns a b i (node_at ns i) s h (λ j hj f. place_tree ns a j s hj f) (λ j hj f. place_tree ns b j s hj f) refl (sym (tree_is ns i s h) ∙ e)
place_tree ns (Max a b) i s h e =
    place_Max ns a b i (node_at ns i) s h (λ j hj f. place_tree ns a j s hj f) (λ j hj f. place_tree ns b j s hj f) refl (sym (tree_is ns i s h) ∙ e)
place_tree ns (Lt a b) i s h e =
    place_Lt ns a b i (node_at ns i) s h (λ j hj f. place_tree ns a j s hj f) (λ j hj f. place_tree ns b j s hj f) refl (sym (tree_is ns i s h) ∙ e)
place_tree ns (Inc a c) i s h e = place_Inc ns a c i (node_at ns i) s h (λ j hj f. place_tree ns a j s hj f) refl (sym (tree_is ns i s h) ∙ e)

-- one more node, over the trees that are there
pub record OneMore (ns ms : List Node) (t : Tree) : Type 0 where
  pub is_nodes : IsNodes ms
  pub grown : IsPrefix ns ms
  pub held : IsHeld ms t

pub one_more : (ns : List Node) (n : Node) → IsNodes ns → IsNodeOver (length ns) n → length ns + cost ns n ≤ 262144 → OneMore ns (with_node ns n) (node_tree (trees ns) n)
one_more ns n s over room = go (holds ns n) refl
  where
    go : (b : Bool) → holds ns n ≡ b → OneMore ns (with_node ns n) (node_tree (trees ns) n)
    go true e =
        let w = with_held ns n e in
        let p = held_place ns n e in
        record {
          is_nodes = subst IsNodes (sym w) s;
          grown = ([], w ∙ sym (append-nil ns));
          held = subst (λ ms. IsHeld ms (node_tree (trees ns) n)) (sym w) (place_of ns n, p.0, tree_is ns (place_of ns n) s p.0 ∙ ap (node_tree (trees ns)) p.1);
        }
    go false e =
        let w = with_new ns n e in
        let c : cost ns n ≡ 1 = ap (λ b. if b then 0 else 1) e in
        record {
          is_nodes = subst IsNodes (sym w) (push_nodes ns n s e over (omega (arith, c, room)));
          grown = (n ∷ [], w);
          held = subst (λ ms. IsHeld ms (node_tree (trees ns) n)) (sym w) (length ns, omega (arith, length-append ns (n ∷ [])), tree_last ns n);
        }
