-- What the steps of planting a table's terms leave.
use Rattle.std.specs.Prelude.{◌≡◌, ℕ, ◌<◌, List, [], ◌∷◌, length, map, flat_map, Option, Some, None}
use Rattle.std.specs.List.{All}
use Rattle.term_store.specs.declared.node.Term.{Term}
use Rattle.term_store.specs.declared.node.Node.{Node}
use Rattle.term_store.specs.declared.node.Node.TheVariants as node
use Rattle.term_store.specs.Tree as tree
use Rattle.term_store.specs.Tree.{Tree}
use Rattle.term_store.specs.Terms.{input_trees}
use Rattle.term_store.specs.Nodes.{IsNodes}
use Rattle.term_store.specs.Trees.{tree as tree_at, trees_at, plant_one, plant, IsPrefix}
use Rattle.func_table.specs.Table.{Row}
use Rattle.minterm.specs.declared.join.Join.{Join}
use Rattle.minterm.specs.declared.join.Join.TheVariants.{Min, Max}
use Rattle.minterm.specs.Minterms.{minterm, row_terms}

-- the node of two joined places
abbrev pub join_node : Join → Term → Term → Node
join_node Min a b = node.Min a b
join_node Max a b = node.Max a b

-- the tree of two joined trees
abbrev pub join_tree : Join → Tree → Tree → Tree
join_tree Min a b = tree.Min a b
join_tree Max a b = tree.Max a b

-- the places of the inputs at `-`
abbrev pub dash_places : List Term → List (Option ℕ) → List Term
dash_places (t ∷ inputs) (Some e ∷ entries) = dash_places inputs entries
dash_places (t ∷ inputs) (None ∷ entries) = t ∷ dash_places inputs entries
dash_places _ _ = []

-- the inputs are at these places, in order
pub record AreInputs (nodes : List Node) (at : List Term) : Type 0 where
  pub within : All (λ t. t.0 < length nodes) at
  pub trees_are : trees_at nodes at ≡ input_trees (length at)

-- the rows' terms were planted in order, and the minterms are at these places
pub record AreRowsPlanted (old nodes : List Node) (rows : List Row) (at : List Term) : Type 0 where
  pub is_nodes : IsNodes nodes
  pub grown : IsPrefix old nodes
  pub nodes_are : nodes ≡ plant old (flat_map row_terms rows)
  pub within : All (λ t. t.0 < length nodes) at
  pub trees_are : trees_at nodes at ≡ map minterm rows

-- what the laws of the store say of planting: a term that is there is not planted again, and a place keeps its term
pub record PlantingLaws : Type 0 where
  pub planted_stay : (nodes : List Node) (t : Tree) (place : ℕ) → IsNodes nodes → place < length nodes → tree_at nodes place ≡ t → plant_one nodes t ≡ nodes
  pub places_stay : (old nodes : List Node) (place : ℕ) → IsPrefix old nodes → place < length old → tree_at nodes place ≡ tree_at old place
