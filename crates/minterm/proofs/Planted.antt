-- Terms planted one after the other.
use Rattle.std.proofs.Common.{◌≡◌, ℕ, ◌<◌, refl, ap, arith, sym, ◌∙◌, length, List, [], ◌∷◌, ◌++◌, length-append, append_assoc, append-nil}
use Rattle.std.specs.List.{All}
use Rattle.std.proofs.lemmas.List.{map-append}
use Rattle.std.proofs.lemmas.List.Elements.{All-head, All-tail, All-push, All-weaker}
use Rattle.std.proofs.lemmas.List.Sums.{fold-append}
use Rattle.term_store.specs.declared.node.Term.{Term}
use Rattle.term_store.specs.declared.node.Node.{Node}
use Rattle.term_store.specs.Tree.{Tree, Min, Max, Lt, Inc}
use Rattle.term_store.specs.Nodes.{IsNodes}
use Rattle.term_store.specs.Trees.{tree, trees_at, with_root, plant_one, plant, IsPrefix}
use Rattle.term_store.specs.Planting.{IsPlanted, ArePlanted}
use Rattle.minterm.specs.Steps.{PlantingLaws}

pub prefix_itself : (ns : List Node) → IsPrefix ns ns
prefix_itself ns = ([], sym (append-nil ns))

pub prefix_then : (ns ms ls : List Node) → IsPrefix ns ms → IsPrefix ms ls → IsPrefix ns ls
prefix_then ns ms ls p q = (p.0 ++ q.0, q.1 ∙ (ap (λ xs. xs ++ q.0) p.1 ∙ append_assoc ns p.0 q.0))

-- a place in a longer list
pub within_more : (ns ms : List Node) (i : ℕ) → IsPrefix ns ms → i < length ns → i < length ms
within_more ns ms i p h = omega (arith, ap length p.1, length-append ns p.0, h)

pub all_within_more : (ns ms : List Node) (at : List Term) → IsPrefix ns ms → All (λ t. t.0 < length ns) at → All (λ t. t.0 < length ms) at
all_within_more ns ms at p all = All-weaker (λ (t : Term). t.0 < length ns) (λ (t : Term). t.0 < length ms) (λ t h. within_more ns ms t.0 p h) at all

-- one list of trees after the other
pub plant_more : (ns : List Node) (ts us : List Tree) → plant ns (ts ++ us) ≡ plant (plant ns ts) us
plant_more ns ts us = fold-append plant_one ns ts us

pub none_planted : (ns : List Node) → IsNodes ns → ArePlanted ns ns [] []
none_planted ns s = record {
  is_nodes = s;
  grown = prefix_itself ns;
  nodes_are = refl;
  within = λ k d h. absurd (omega (arith, h));
  trees_are = refl;
}

module _ (laws : PlantingLaws) where
  -- a term that is in the store
  pub held : (ns : List Node) (t : Tree) (at : Term) → IsNodes ns → at.0 < length ns → tree ns at.0 ≡ t → IsPlanted ns ns t at
  held ns t at s h e = record {
    is_nodes = s;
    grown = prefix_itself ns;
    nodes_are = sym (laws.planted_stay ns t at.0 s h e);
    within = h;
    tree_is = e;
  }

  pub trees_stay : (ns ms : List Node) (at : List Term) → IsPrefix ns ms → All (λ t. t.0 < length ns) at → trees_at ms at ≡ trees_at ns at
  trees_stay ns ms [] p all = refl
  trees_stay ns ms (t ∷ at) p all =
      ap (λ u. u ∷ trees_at ms at) (laws.places_stay ns ms t.0 p (All-head (λ (t : Term). t.0 < length ns) t at all))
      ∙ ap (λ us. tree ns t.0 ∷ us) (trees_stay ns ms at p (All-tail (λ (t : Term). t.0 < length ns) t at all))

  -- a delay of a term that was planted
  pub after_delay : (a b c : List Node) (t : Tree) (k : ℕ) (x r : Term) → IsPlanted a b t x → IsPlanted b c (Inc (tree b x.0) k) r → IsPlanted a c (Inc t k) r
  after_delay a b c t k x r p q = record {
    is_nodes = q.is_nodes;
    grown = prefix_then a b c p.grown q.grown;
    nodes_are =
        q.nodes_are
        ∙ (ap (λ u. plant_one b (Inc u k)) p.tree_is
        ∙ (ap (λ ns. with_root ns (Inc t k)) (laws.planted_stay b t x.0 p.is_nodes p.within p.tree_is) ∙ ap (λ ns. with_root ns (Inc t k)) p.nodes_are));
    within = q.within;
    tree_is = q.tree_is ∙ ap (λ u. Inc u k) p.tree_is;
  }

  -- an operator over two terms that were planted one after the other
  after_both : (op : Tree → Tree → Tree) → ((ns : List Node) (t u : Tree) → plant_one ns (op t u) ≡ with_root (plant_one (plant_one ns t) u) (op t u))
      → (a b c d : List Node) (t u : Tree) (x y r : Term) → IsPlanted a b t x → IsPlanted b c u y → IsPlanted c d (op (tree c x.0) (tree c y.0)) r → IsPlanted a d (op t u) r
  after_both op shape a b c d t u x y r p q w =
      let first : tree c x.0 ≡ t = laws.places_stay b c x.0 q.grown p.within ∙ p.tree_is in
      let same : op (tree c x.0) (tree c y.0) ≡ op t u = ap (λ s. op s (tree c y.0)) first ∙ ap (op t) q.tree_is in
      let there : plant_one (plant_one c t) u ≡ c =
      ap (λ ns. plant_one ns u) (laws.planted_stay c t x.0 q.is_nodes (within_more b c x.0 q.grown p.within) first) ∙ laws.planted_stay c u y.0 q.is_nodes q.within q.tree_is in
      let anew : c ≡ plant_one (plant_one a t) u = q.nodes_are ∙ ap (λ ns. plant_one ns u) p.nodes_are in
      record {
        is_nodes = w.is_nodes;
        grown = prefix_then a b d p.grown (prefix_then b c d q.grown w.grown);
        nodes_are =
            w.nodes_are ∙ (ap (plant_one c) same ∙ (shape c t u ∙ (ap (λ ns. with_root ns (op t u)) (there ∙ anew) ∙ sym (shape a t u))));
        within = w.within;
        tree_is = w.tree_is ∙ same;
      }

  pub after_min : (a b c d : List Node) (t u : Tree) (x y r : Term) → IsPlanted a b t x → IsPlanted b c u y → IsPlanted c d (Min (tree c x.0) (tree c y.0)) r → IsPlanted a d (Min t u) r
  after_min = after_both Min (λ ns t u. refl)

  pub after_max : (a b c d : List Node) (t u : Tree) (x y r : Term) → IsPlanted a b t x → IsPlanted b c u y → IsPlanted c d (Max (tree c x.0) (tree c y.0)) r → IsPlanted a d (Max t u) r
  after_max = after_both Max (λ ns t u. refl)

  pub after_lt : (a b c d : List Node) (t u : Tree) (x y r : Term) → IsPlanted a b t x → IsPlanted b c u y → IsPlanted c d (Lt (tree c x.0) (tree c y.0)) r → IsPlanted a d (Lt t u) r
  after_lt = after_both Lt (λ ns t u. refl)

  -- one term more
  pub one_more : (a b c : List Node) (ts : List Tree) (at : List Term) (t : Tree) (r : Term) → ArePlanted a b ts at → IsPlanted b c t r → ArePlanted a c (ts ++ t ∷ []) (at ++ r ∷ [])
  one_more a b c ts at t r p q = record {
    is_nodes = q.is_nodes;
    grown = prefix_then a b c p.grown q.grown;
    nodes_are = q.nodes_are ∙ (ap (λ ns. plant_one ns t) p.nodes_are ∙ sym (plant_more a ts (t ∷ [])));
    within = All-push (λ (t : Term). t.0 < length c) at r (all_within_more b c at q.grown p.within) q.within;
    trees_are =
        map-append (λ (t : Term). tree c t.0) at (r ∷ [])
        ∙ (ap (λ us. us ++ tree c r.0 ∷ []) (trees_stay b c at q.grown p.within ∙ p.trees_are) ∙ ap (λ u. ts ++ u ∷ []) q.tree_is);
  }
