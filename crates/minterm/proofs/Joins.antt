-- Joins from left to right.
use Rattle.std.proofs.Common.{◌≡◌, ℕ, ◌<◌, ◌+◌, refl, ap, subst, sym, ◌∙◌, length, List, [], ◌∷◌, ◌++◌, take, get_or}
use Rattle.std.specs.List.{All}
use Rattle.std.proofs.lemmas.List.{take_more, map-append}
use Rattle.std.proofs.lemmas.List.Elements.{All-get_or}
use Rattle.term_store.specs.declared.node.Term.{Term}
use Rattle.term_store.specs.declared.node.Node.{Node}
use Rattle.term_store.specs.Tree.{Tree}
use Rattle.term_store.specs.Nodes.{IsNodeOver}
use Rattle.term_store.specs.Trees.{tree, trees_at}
use Rattle.term_store.specs.Places.{tree_by_places}
use Rattle.term_store.specs.Planting.{IsPlanted}
use Rattle.minterm.specs.declared.join.Join.{Join}
use Rattle.minterm.specs.declared.join.Join.TheVariants as j
use Rattle.minterm.specs.Minterms.{joined}
use Rattle.minterm.specs.Steps.{join_node, join_tree, PlantingLaws}
use Rattle.minterm.proofs.Planted.{within_more, held, after_min, after_max}

pub joined_more : (op : Tree → Tree → Tree) (t : Tree) (us : List Tree) (u : Tree) → joined op t (us ++ u ∷ []) ≡ op (joined op t us) u
joined_more op t [] u = refl
joined_more op t (v ∷ us) u = joined_more op (op t v) us u

-- the node of a join is over its places
pub join_over : (op : Join) (m : ℕ) (a b : Term) → a.0 < m → b.0 < m → IsNodeOver m (join_node op a b)
join_over j.Min m a b g h = (g, h)
join_over j.Max m a b g h = (g, h)

-- and so it does over the places of a loop
pub next_over : (op : Join) (a b : List Node) (t : Tree) (rest : List Term) (i : ℕ) (x d : Term) (n : Node) → i < length rest → All (λ t. t.0 < length a) rest → n ≡ join_node op x (get_or rest i d) → IsPlanted a b t x → IsNodeOver (length b) n
next_over op a b t rest i x d n h all node p =
    subst (IsNodeOver (length b)) (sym node) (join_over op (length b) x (get_or rest i d) p.within (within_more a b (get_or rest i d).0 p.grown (All-get_or (λ (t : Term). t.0 < length a) rest i d h all)))

trees_more : (ns : List Node) (at : List Term) (i : ℕ) (d : Term) → i < length at → trees_at ns (take (i + 1) at) ≡ trees_at ns (take i at) ++ tree ns (get_or at i d).0 ∷ []
trees_more ns at i d h = ap (trees_at ns) (take_more at i d h) ∙ map-append (λ (t : Term). tree ns t.0) (take i at) (get_or at i d ∷ [])

module _ (laws : PlantingLaws) where
  -- a join of a term that was planted and one that stood there before
  one_join : (op : Join) (a b d : List Node) (t : Tree) (x y r : Term) → y.0 < length a → IsPlanted a b t x → IsPlanted b d (tree_by_places b (join_node op x y)) r
      → IsPlanted a d (join_tree op t (tree a y.0)) r
  one_join j.Min a b d t x y r h p q =
      after_min laws a b b d t (tree a y.0) x y r p (held laws b (tree a y.0) y p.is_nodes (within_more a b y.0 p.grown h) (laws.places_stay a b y.0 p.grown h)) q
  one_join j.Max a b d t x y r h p q =
      after_max laws a b b d t (tree a y.0) x y r p (held laws b (tree a y.0) y p.is_nodes (within_more a b y.0 p.grown h) (laws.places_stay a b y.0 p.grown h)) q

  -- one term more in a join
  pub join_more : (op : Join) (a b c : List Node) (t : Tree) (rest : List Term) (i : ℕ) (x d r : Term) (n : Node) → i < length rest → All (λ t. t.0 < length a) rest → n ≡ join_node op x (get_or rest i d)
      → IsPlanted a b (joined (join_tree op) t (trees_at a (take i rest))) x → IsPlanted b c (tree_by_places b n) r → IsPlanted a c (joined (join_tree op) t (trees_at a (take (i + 1) rest))) r
  join_more op a b c t rest i x d r n h all node p q =
      let within : (get_or rest i d).0 < length a = All-get_or (λ (t : Term). t.0 < length a) rest i d h all in
      let one = one_join op a b c (joined (join_tree op) t (trees_at a (take i rest))) x (get_or rest i d) r within p (subst (λ m. IsPlanted b c (tree_by_places b m) r) node q) in
      let whole : joined (join_tree op) t (trees_at a (take (i + 1) rest)) ≡ join_tree op (joined (join_tree op) t (trees_at a (take i rest))) (tree a (get_or rest i d).0) =
      ap (joined (join_tree op) t) (trees_more a rest i d h) ∙ joined_more (join_tree op) t (trees_at a (take i rest)) (tree a (get_or rest i d).0) in
      subst (λ u. IsPlanted a c u r) (sym whole) one
