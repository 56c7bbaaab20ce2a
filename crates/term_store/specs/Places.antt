-- The places that roots reach, as marks, and what is counted over them.
use Rattle.std.specs.Prelude.{◌≡◌, ℕ, zero, suc, ◌<◌, ◌+◌, max, Bool, true, false, ◌&&◌, nat_eq, if◌then◌else◌, List, [], ◌∷◌, ◌++◌, length, map, filter, fold, sum_by, slice_index_or}
use Rattle.term_store.specs.declared.node.Term.{Term}
use Rattle.term_store.specs.declared.node.Node.{Node}
use Rattle.term_store.specs.declared.node.Node.TheVariants.{Input, Never, Min, Max, Lt, Inc}
use Rattle.term_store.specs.Nodes.{node_at}
use Rattle.std.specs.List.{All}
use Rattle.term_store.specs.Tree as t
use Rattle.term_store.specs.Tree.{Tree}
use Rattle.term_store.specs.Reach.{is_reached, IsOperand}
use Rattle.term_store.specs.Subterms.{AreNetworkTerms, join_count, delay_count, lt_count, longest_delay, register_bits}
use Rattle.term_store.specs.Trees.{tree, trees_at}

-- the first n places, in order
abbrev pub places : ℕ → List ℕ
places zero = []
places (suc n) = places n ++ n ∷ []

-- a mark for each place: whether the roots reach it
abbrev pub reach_marks : List Node → List Term → List Bool
reach_marks nodes roots = map (is_reached nodes roots) (places (length nodes))

abbrev pub is_marked : List Bool → ℕ → Bool
is_marked marks place = slice_index_or marks place false

abbrev pub is_join_node : Node → Bool
is_join_node (Min a b) = true
is_join_node (Max a b) = true
is_join_node (Lt a b) = true
is_join_node _ = false

abbrev pub is_lt_node : Node → Bool
is_lt_node (Lt a b) = true
is_lt_node _ = false

abbrev pub is_delay_node : Node → Bool
is_delay_node (Inc a c) = true
is_delay_node _ = false

-- the place is marked, and its node passes the test
abbrev pub is_marked_with : (Node → Bool) → List Node → List Bool → ℕ → Bool
is_marked_with test nodes marks place = is_marked marks place && test (node_at nodes place)

-- by how many cycles the node delays the place; 0 where it doesn't
abbrev pub node_delay : ℕ → Node → ℕ
node_delay place (Inc a c) = if nat_eq a.0 place then c else 0
node_delay place _ = 0

abbrev pub marked_delay : List Node → List Bool → ℕ → ℕ → ℕ
marked_delay nodes marks place q = if is_marked marks q then node_delay place (node_at nodes q) else 0

-- the most cycles by which a marked node among the first n delays the place; 0 where none does
abbrev pub longest_upto : List Node → List Bool → ℕ → ℕ → ℕ
longest_upto nodes marks n place = fold max 0 (map (marked_delay nodes marks place) (places n))

-- the most cycles by which a marked node delays the place
abbrev pub longest_at : List Node → List Bool → ℕ → ℕ
longest_at nodes marks place = longest_upto nodes marks (length nodes) place

-- how many of the first n places are marked and pass the test
abbrev pub marked_upto : (Node → Bool) → List Node → List Bool → ℕ → ℕ
marked_upto test nodes marks n = length (filter (is_marked_with test nodes marks) (places n))

-- What is counted over the reached places is what is counted over the distinct subterms of the roots' terms.
pub record CountsAreRight (nodes : List Node) (roots : List Term) (marks : List Bool) : Type 0 where
  pub joins : marked_upto is_join_node nodes marks (length nodes) ≡ join_count (trees_at nodes roots)
  pub delays : marked_upto is_delay_node nodes marks (length nodes) ≡ delay_count (trees_at nodes roots)
  pub lts : marked_upto is_lt_node nodes marks (length nodes) ≡ lt_count (trees_at nodes roots)
  pub longest : (place : ℕ) → place < length nodes → longest_at nodes marks place ≡ longest_delay (trees_at nodes roots) (tree nodes place)
  pub bits : sum_by (longest_at nodes marks) (places (length nodes)) + lt_count (trees_at nodes roots) ≡ register_bits (trees_at nodes roots)

-- The marks have the roots among them and the operands of each marked place, and no marked input is past those that the terms may have.
pub record MarksAreClosed (nodes : List Node) (roots : List Term) (marks : List Bool) : Type 0 where
  pub roots_marked : All (λ r. is_marked marks r.0 ≡ true) roots
  pub operands : (place operand : ℕ) → place < length nodes → is_marked marks place ≡ true → IsOperand operand (node_at nodes place) → is_marked marks operand ≡ true
  pub inputs : (count place i : ℕ) → AreNetworkTerms count (trees_at nodes roots) → place < length nodes → is_marked marks place ≡ true → node_at nodes place ≡ Input i → i < count

-- the tree of a node, over the trees of its operands' places
abbrev pub tree_by_places : List Node → Node → Tree
tree_by_places nodes (Input i) = t.Input i
tree_by_places nodes Never = t.Never
tree_by_places nodes (Min a b) = t.Min (tree nodes a.0) (tree nodes b.0)
tree_by_places nodes (Max a b) = t.Max (tree nodes a.0) (tree nodes b.0)
tree_by_places nodes (Lt a b) = t.Lt (tree nodes a.0) (tree nodes b.0)
tree_by_places nodes (Inc a c) = t.Inc (tree nodes a.0) c
