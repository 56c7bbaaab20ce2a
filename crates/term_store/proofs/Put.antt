-- What planting an expression leaves.
use Rattle.std.proofs.Common.{◌≡◌, ℕ, suc, ◌<◌, ◌≤◌, ◌+◌, refl, ap, subst, arith, sym, ◌∙◌, length, List, [], ◌∷◌, ◌++◌, length-append, append_assoc, append-nil}
use Rattle.std.specs.List.{All, slice_index_or}
use Rattle.std.proofs.lemmas.Grind.{common_steps}
use Rattle.std.proofs.lemmas.Bool.Decides.{nat_tests}
use Rattle.std.proofs.lemmas.List.Sums.{passes_at_first}
use Rattle.term_store.specs.Tree.{Tree, Never, Input, Min, Max, Lt, Inc}
use Rattle.term_store.specs.Terms.{tree_in, tree_over, delayed}
use Rattle.term_store.specs.declared.node.Term.{Term}
use Rattle.term_store.specs.declared.node.Node.{Node}
use Rattle.term_store.specs.declared.node.Node.TheVariants as node
use Rattle.term_store.specs.Nodes.{node_at, same_node, place_of, with_node, IsNodeOver, IsNodes}
use Rattle.term_store.specs.Trees.{node_tree, trees, tree, place, node_of, plant_one, term, IsHeld, IsPrefix, trees_at}
use Rattle.term_store.specs.Planting.{cost, IsPlanted, IsPairPlanted}
use Rattle.net_model.specs.Formula.{Formula}
use Rattle.term_store.proofs.Same.{one_term, same_is}
use Rattle.term_store.proofs.Push.{with_held, held_at}
use Rattle.term_store.proofs.TreeLaws.{tree_prefix, over_agree}
use Rattle.term_store.proofs.Distinct.{tree_is}
use Rattle.term_store.proofs.Plant.{OneMore, one_more, place_tree}

-- a place in a longer list
pub within_more : (ns ms : List Node) (i : ℕ) → IsPrefix ns ms → i < length ns → i < length ms
within_more ns ms i p h = omega (arith, ap length p.1, length-append ns p.0)

pub tree_more : (ns ms : List Node) (i : ℕ) → IsPrefix ns ms → i < length ns → tree ms i ≡ tree ns i
tree_more ns ms i p h = ap (λ xs. tree xs i) p.1 ∙ tree_prefix ns p.0 i h

pub prefix_then : (ns ms ls : List Node) → IsPrefix ns ms → IsPrefix ms ls → IsPrefix ns ls
prefix_then ns ms ls p q = (p.0 ++ q.0, q.1 ∙ ap (λ xs. xs ++ q.0) p.1 ∙ append_assoc ns p.0 q.0)

pub same_trees : (ns ms : List Node) (lets : List Term) → IsPrefix ns ms → All (λ t. t.0 < length ns) lets → trees_at ms lets ≡ trees_at ns lets
same_trees ns ms [] p all = refl
same_trees ns ms (t ∷ ts) p all =
    let here : tree ms t.0 ≡ tree ns t.0 = tree_more ns ms t.0 p (all 0 t (omega arith)) in
    let rest : trees_at ms ts ≡ trees_at ns ts = same_trees ns ms ts p (λ k d h. all (suc k) d (omega arith)) in
    cc

-- one more node, after what its operands left
pub put_step : (ns l ms : List Node) (n : Node) (t : Tree) (r : Term) → IsPrefix ns l → IsNodes l → IsNodeOver (length l) n → length l + cost l n ≤ 262144
    → ms ≡ with_node l n → r.0 < length ms → node_at ms r.0 ≡ n → node_tree (trees l) n ≡ t → plant_one ns t ≡ with_node l n → IsPlanted ns ms t r
put_step ns l ms n t r pre s over room e within at shape planted =
    let one : OneMore l ms (node_tree (trees l) n) = subst (λ xs. OneMore l xs (node_tree (trees l) n)) (sym e) (one_more l n s over room) in
    record {
      is_nodes = one.is_nodes;
      grown = prefix_then ns l ms pre one.grown;
      nodes_are = e ∙ sym planted;
      within = within;
      tree_is = tree_is ms r.0 one.is_nodes within ∙ ap (node_tree (trees ms)) at ∙ over_agree (length l) (trees ms) (trees l) n over (λ i h. tree_more l ms i one.grown h) ∙ shape;
    }

pub put_leaf : (ns ms : List Node) (n : Node) (t : Tree) (r : Term) → IsNodes ns → IsNodeOver (length ns) n → length ns + cost ns n ≤ 262144
    → ms ≡ with_node ns n → r.0 < length ms → node_at ms r.0 ≡ n → node_tree (trees ns) n ≡ t → plant_one ns t ≡ with_node ns n → IsPlanted ns ms t r
put_leaf ns ms n t r s over room e within at shape planted =
    put_step ns ns ms n t r ([], sym (append-nil ns)) s over room e within at shape planted

-- two trees, one after the other
pub put_two : (ns l m : List Node) (lets : List Term) (a b : Formula) (x y : Term) → All (λ t. t.0 < length ns) lets
    → IsPlanted ns l (tree_over (trees_at ns lets) a) x → IsPlanted l m (tree_over (trees_at l lets) b) y
    → IsPairPlanted ns m (tree_over (trees_at ns lets) a) (tree_over (trees_at ns lets) b) x y
put_two ns l m lets a b x y all p q0 =
    let q = subst (λ ts. IsPlanted l m (tree_over ts b) y) (same_trees ns l lets p.grown all) q0 in
    let tb = tree_over (trees_at ns lets) b in
    record {
      is_nodes = q.is_nodes;
      grown = prefix_then ns l m p.grown q.grown;
      nodes_are = q.nodes_are ∙ ap (λ xs. plant_one xs tb) p.nodes_are;
      first_within = within_more l m x.0 q.grown p.within;
      second_within = q.within;
      first_is = tree_more l m x.0 q.grown p.within ∙ p.tree_is;
      second_is = q.tree_is;
    }

-- the place of a tree, as the code names it
pub term_at : (ns : List Node) (t : Tree) (x : Term) → IsNodes ns → x.0 < length ns → tree ns x.0 ≡ t → x ≡ term (place ns t)
term_at ns t x s h e = one_term x (term (place ns t)) (sym (place_tree ns t x.0 s h e))

pub put_Min : (ns m ms : List Node) (a b : Tree) (x y r : Term) → IsPairPlanted ns m a b x y → length m + cost m (node.Min x y) ≤ 262144
    → ms ≡ with_node m (node.Min x y) → r.0 < length ms → node_at ms r.0 ≡ node.Min x y → IsPlanted ns ms (Min a b) r
put_Min ns m ms a b x y r p room e within at =
    let ex = term_at m a x p.is_nodes p.first_within p.first_is in
    let ey = term_at m b y p.is_nodes p.second_within p.second_is in
    let en : node_of m (Min a b) ≡ node.Min x y = cc in
    let tx = p.first_is in
    let ty = p.second_is in
    let shape : node_tree (trees m) (node.Min x y) ≡ Min a b = cc in
    let planted : plant_one ns (Min a b) ≡ with_node m (node.Min x y) = ap (λ xs. with_node xs (node_of xs (Min a b))) (sym p.nodes_are) ∙ ap (with_node m) en in
    put_step ns m ms (node.Min x y) (Min a b) r p.grown p.is_nodes (p.first_within, p.second_within) room e within at shape planted

pub put_Max : (ns m ms : List Node) (a b : Tree) (x y r : Term) → IsPairPlanted ns m a b x y → length m + cost m (node.Max x y) ≤ 262144
    → ms ≡ with_node m (node.Max x y) → r.0 < length ms → node_at ms r.0 ≡ node.Max x y → IsPlanted ns ms (Max a b) r
put_Max ns m ms a b x y r p room e within at =
    let ex = term_at m a x p.is_nodes p.first_within p.first_is in
    let ey = term_at m b y p.is_nodes p.second_within p.second_is in
    let en : node_of m (Max a b) ≡ node.Max x y = cc in
    let tx = p.first_is in
    let ty = p.second_is in
    let shape : node_tree (trees m) (node.Max x y) ≡ Max a b = cc in
    let planted : plant_one ns (Max a b) ≡ with_node m (node.Max x y) = ap (λ xs. with_node xs (node_of xs (Max a b))) (sym p.nodes_are) ∙ ap (with_node m) en in
    put_step ns m ms (node.Max x y) (Max a b) r p.grown p.is_nodes (p.first_within, p.second_within) room e within at shape planted

pub put_Lt : (ns m ms : List Node) (a b : Tree) (x y r : Term) → IsPairPlanted ns m a b x y → length m + cost m (node.Lt x y) ≤ 262144
    → ms ≡ with_node m (node.Lt x y) → r.0 < length ms → node_at ms r.0 ≡ node.Lt x y → IsPlanted ns ms (Lt a b) r
put_Lt ns m ms a b x y r p room e within at =
    let ex = term_at m a x p.is_nodes p.first_within p.first_is in
    let ey = term_at m b y p.is_nodes p.second_within p.second_is in
    let en : node_of m (Lt a b) ≡ node.Lt x y = cc in
    let tx = p.first_is in
    let ty = p.second_is in
    let shape : node_tree (trees m) (node.Lt x y) ≡ Lt a b = cc in
    let planted : plant_one ns (Lt a b) ≡ with_node m (node.Lt x y) = ap (λ xs. with_node xs (node_of xs (Lt a b))) (sym p.nodes_are) ∙ ap (with_node m) en in
    put_step ns m ms (node.Lt x y) (Lt a b) r p.grown p.is_nodes (p.first_within, p.second_within) room e within at shape planted

pub put_Inc : (ns l ms : List Node) (a : Tree) (c : ℕ) (x r : Term) → IsPlanted ns l a x → 1 ≤ c → c ≤ 1000000 → length l + cost l (node.Inc x c) ≤ 262144
    → ms ≡ with_node l (node.Inc x c) → r.0 < length ms → node_at ms r.0 ≡ node.Inc x c → IsPlanted ns ms (Inc a c) r
put_Inc ns l ms a c x r p lo hi room e within at =
    let ex : x ≡ term (place l a) = one_term x (term (place l a)) (sym (place_tree l a x.0 p.is_nodes p.within p.tree_is)) in
    let en : node_of l (Inc a c) ≡ node.Inc x c = cc in
    let tx = p.tree_is in
    let shape : node_tree (trees l) (node.Inc x c) ≡ Inc a c = cc in
    let planted : plant_one ns (Inc a c) ≡ with_node l (node.Inc x c) = ap (λ xs. with_node xs (node_of xs (Inc a c))) (sym p.nodes_are) ∙ ap (with_node l) en in
    put_step ns l ms (node.Inc x c) (Inc a c) r p.grown p.is_nodes (p.within, lo, hi) room e within at shape planted

-- a node of a tree that is held is held
held_node : (ns : List Node) (t : Tree) (i : ℕ) → IsNodes ns → i < length ns → tree ns i ≡ t → (n : Node) → place_of ns n ≡ place ns t → with_node ns n ≡ ns
held_node ns t i s h e n f =
    let w : place_of ns n < length ns = subst (λ k. k < length ns) (sym (f ∙ place_tree ns t i s h e)) h in
    with_held ns n (held_at ns n (place_of ns n) w (sym (same_is _ _ (passes_at_first (same_node n) ns node.Never w))))

pub held_Min : (ns : List Node) (a b : Tree) (i : ℕ) (n : Node) → IsNodes ns → i < length ns → node_at ns i ≡ n → node_tree (trees ns) n ≡ Min a b → IsHeld ns a × IsHeld ns b
held_Min ns a b i (node.Min x y) s h at f =
    let o : IsNodeOver i (node.Min x y) = subst (IsNodeOver i) at (s.lower i h) in
    ((x.0, omega (arith, o.0), cc), (y.0, omega (arith, o.1), cc))
held_Min ns a b i n s h at f = cc

pub held_Max : (ns : List Node) (a b : Tree) (i : ℕ) (n : Node) → IsNodes ns → i < length ns → node_at ns i ≡ n → node_tree (trees ns) n ≡ Max a b → IsHeld ns a × IsHeld ns b
held_Max ns a b i (node.Max x y) s h at f =
    let o : IsNodeOver i (node.Max x y) = subst (IsNodeOver i) at (s.lower i h) in
    ((x.0, omega (arith, o.0), cc), (y.0, omega (arith, o.1), cc))
held_Max ns a b i n s h at f = cc

pub held_Lt : (ns : List Node) (a b : Tree) (i : ℕ) (n : Node) → IsNodes ns → i < length ns → node_at ns i ≡ n → node_tree (trees ns) n ≡ Lt a b → IsHeld ns a × IsHeld ns b
held_Lt ns a b i (node.Lt x y) s h at f =
    let o : IsNodeOver i (node.Lt x y) = subst (IsNodeOver i) at (s.lower i h) in
    ((x.0, omega (arith, o.0), cc), (y.0, omega (arith, o.1), cc))
held_Lt ns a b i n s h at f = cc

pub held_Inc : (ns : List Node) (a : Tree) (c i : ℕ) (n : Node) → IsNodes ns → i < length ns → node_at ns i ≡ n → node_tree (trees ns) n ≡ Inc a c → IsHeld ns a
held_Inc ns a c i (node.Inc x d) s h at f =
    let o : IsNodeOver i (node.Inc x d) = subst (IsNodeOver i) at (s.lower i h) in
    (x.0, omega (arith, o.0), cc)
held_Inc ns a c i n s h at f = cc

-- a tree that is held adds nothing
pub plant_held : (t : Tree) (ns : List Node) (i : ℕ) → IsNodes ns → i < length ns → tree ns i ≡ t → plant_one ns t ≡ ns
plant_held (Input k) ns i s h e = held_node ns (Input k) i s h e (node.Input k) refl
plant_held Never ns i s h e = held_node ns Never i s h e node.Never refl
plant_held (Min a b) ns i s h e =
    let both = held_Min ns a b i (node_at ns i) s h refl (sym (tree_is ns i s h) ∙ e) in
    let pa = plant_held a ns both.0.0 s both.0.1 both.0.2 in
    let pb = plant_held b ns both.1.0 s both.1.1 both.1.2 in
    ap (λ xs. let ms = plant_one xs b in with_node ms (node_of ms (Min a b))) pa
    ∙ ap (λ ms. with_node ms (node_of ms (Min a b))) pb
    ∙ held_node ns (Min a b) i s h e (node_of ns (Min a b)) refl
plant_held (Max a b) ns i s h e =
    let both = held_Max ns a b i (node_at ns i) s h refl (sym (tree_is ns i s h) ∙ e) in
    let pa = plant_held a ns both.0.0 s both.0.1 both.0.2 in
    let pb = plant_held b ns both.1.0 s both.1.1 both.1.2 in
    ap (λ xs. let ms = plant_one xs b in with_node ms (node_of ms (Max a b))) pa
    ∙ ap (λ ms. with_node ms (node_of ms (Max a b))) pb
    ∙ held_node ns (Max a b) i s h e (node_of ns (Max a b)) refl
plant_held (Lt a b) ns i s h e =
    let both = held_Lt ns a b i (node_at ns i) s h refl (sym (tree_is ns i s h) ∙ e) in
    let pa = plant_held a ns both.0.0 s both.0.1 both.0.2 in
    let pb = plant_held b ns both.1.0 s both.1.1 both.1.2 in
    ap (λ xs. let ms = plant_one xs b in with_node ms (node_of ms (Lt a b))) pa
    ∙ ap (λ ms. with_node ms (node_of ms (Lt a b))) pb
    ∙ held_node ns (Lt a b) i s h e (node_of ns (Lt a b)) refl
plant_held (Inc a c) ns i s h e =
    let ha = held_Inc ns a c i (node_at ns i) s h refl (sym (tree_is ns i s h) ∙ e) in
    ap (λ ms. with_node ms (node_of ms (Inc a c))) (plant_held a ns ha.0 s ha.1 ha.2)
    ∙ held_node ns (Inc a c) i s h e (node_of ns (Inc a c)) refl

-- a tree that is held is put at no cost
pub put_held : (ns : List Node) (t : Tree) (r : Term) → IsNodes ns → r.0 < length ns → tree ns r.0 ≡ t → IsPlanted ns ns t r
put_held ns t r s h e = record {
  is_nodes = s;
  grown = ([], sym (append-nil ns));
  nodes_are = sym (plant_held t ns r.0 s h e);
  within = h;
  tree_is = e;
}

-- the tree of a let
pub let_tree : (ns : List Node) (lets : List Term) (j : ℕ) (d : Term) → j < length lets → tree_in (trees_at ns lets) j ≡ tree ns (slice_index_or lets j d).0
let_tree ns lets j d h = grind (arith, common_steps)

-- a let is there already
pub put_named : (ns : List Node) (lets : List Term) (j : ℕ) (d : Term) → IsNodes ns → All (λ t. t.0 < length ns) lets → j < length lets
    → IsPlanted ns ns (tree_in (trees_at ns lets) j) (slice_index_or lets j d)
put_named ns lets j d s all h = put_held ns _ (slice_index_or lets j d) s (all j d h) (sym (let_tree ns lets j d h))

-- a delay of a cycle or more
pub put_delay : (ns l ms : List Node) (t : Tree) (c : ℕ) (x r : Term) → IsPlanted ns l t x → (c ≡ 0 → ⊥) → c ≤ 1000000 → length l + cost l (node.Inc x c) ≤ 262144
    → ms ≡ with_node l (node.Inc x c) → r.0 < length ms → node_at ms r.0 ≡ node.Inc x c → IsPlanted ns ms (delayed t c) r
put_delay ns l ms t c x r p pos hi room e within at =
    let shape : Inc t c ≡ delayed t c = grind (arith, nat_tests, pos) in
    subst (λ u. IsPlanted ns ms u r) shape (put_Inc ns l ms t c x r p (omega arith) hi room e within at)
