-- A node whose operands are held is the term of its tree planted.
use Rattle.std.proofs.Common.{◌≡◌, ◌<◌, ◌≤◌, Bool, true, false, List, length, refl, sym, arith, ◌∙◌, ap}
use Rattle.std.specs.Prelude.{if◌then◌else◌}
use Rattle.term_store.specs.declared.node.Term.{Term}
use Rattle.term_store.specs.declared.node.Node.{Node}
use Rattle.term_store.specs.declared.node.Node.TheVariants as node
use Rattle.term_store.specs.Nodes.{node_at, holds, with_node, IsNodeOver, IsNodes}
use Rattle.term_store.specs.Trees.{tree, plant_one}
use Rattle.term_store.specs.Places.{tree_by_places}
use Rattle.term_store.specs.Planting.{cost, IsPlanted, IsPairPlanted}
use Rattle.term_store.proofs.Put.{put_leaf, put_Min, put_Max, put_Lt, put_Inc, put_held, plant_held}

pub cost_le : (ns : List Node) (n : Node) → cost ns n ≤ 1
cost_le ns n = go (holds ns n) where
  go : (b : Bool) → (if b then 0 else 1) ≤ 1
  go true = omega arith
  go false = omega arith

pair_held : (ns : List Node) (a b : Term) → IsNodes ns → a.0 < length ns → b.0 < length ns → IsPairPlanted ns ns (tree ns a.0) (tree ns b.0) a b
pair_held ns a b s ha hb = record {
  is_nodes = s;
  grown = (put_held ns (tree ns a.0) a s ha refl).grown;
  nodes_are = sym (ap (λ ms. plant_one ms (tree ns b.0)) (plant_held (tree ns a.0) ns a.0 s ha refl) ∙ plant_held (tree ns b.0) ns b.0 s hb refl);
  first_within = ha;
  second_within = hb;
  first_is = refl;
  second_is = refl;
}

pub put_node : (ns ms : List Node) (n : Node) (r : Term) → IsNodes ns → IsNodeOver (length ns) n → length ns < 262144 → ms ≡ with_node ns n → r.0 < length ms → node_at ms r.0 ≡ n →
    IsPlanted ns ms (tree_by_places ns n) r
put_node ns ms node.Never r s over room e within at = put_leaf ns ms node.Never _ r s over (omega (arith, room, cost_le ns node.Never)) e within at refl refl
put_node ns ms (node.Input i) r s over room e within at = put_leaf ns ms (node.Input i) _ r s over (omega (arith, room, cost_le ns (node.Input i))) e within at refl refl
put_node ns ms (node.Min a b) r s over room e within at = put_Min ns ns ms (tree ns a.0) (tree ns b.0) a b r (pair_held ns a b s over.0 over.1) (omega (arith, room, cost_le ns (node.Min a b))) e within at
put_node ns ms (node.Max a b) r s over room e within at = put_Max ns ns ms (tree ns a.0) (tree ns b.0) a b r (pair_held ns a b s over.0 over.1) (omega (arith, room, cost_le ns (node.Max a b))) e within at
put_node ns ms (node.Lt a b) r s over room e within at = put_Lt ns ns ms (tree ns a.0) (tree ns b.0) a b r (pair_held ns a b s over.0 over.1) (omega (arith, room, cost_le ns (node.Lt a b))) e within at
put_node ns ms (node.Inc a c) r s over room e within at =
    put_Inc ns ns ms (tree ns a.0) c a r (put_held ns (tree ns a.0) a s over.0 refl) over.1 over.2 (omega (arith, room, cost_le ns (node.Inc a c))) e within at
