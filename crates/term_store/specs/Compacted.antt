-- What is left of a store once the places went that no root reaches.
use Rattle.std.specs.Prelude.{◌≡◌, ℕ, ◌<◌, ◌≤◌, ◌+◌, Bool, true, List, length, map, filter}
use Rattle.std.specs.List.{slice_index_or}
use Rattle.term_store.specs.declared.node.Term.{Term}
use Rattle.term_store.specs.declared.node.Node.{Node}
use Rattle.term_store.specs.declared.node.Node.TheVariants.{Input, Never, Min, Max, Lt, Inc}
use Rattle.term_store.specs.Tree.{Tree}
use Rattle.term_store.specs.Nodes.{Contents, node_at, IsNodes}
use Rattle.term_store.specs.Trees.{tree, trees, term}
use Rattle.term_store.specs.Reach.{is_reached, IsOperand}
use Rattle.term_store.specs.Places.{places, is_marked}

-- the trees of the first n places that pass the test, in order
abbrev pub trees_where : List Node → (ℕ → Bool) → ℕ → List Tree
trees_where nodes test n = map (tree nodes) (filter test (places n))

-- the trees of the places that the roots reach, in order
abbrev pub reached_trees : List Node → List Term → List Tree
reached_trees nodes roots = trees_where nodes (is_reached nodes roots) (length nodes)

-- the new place of a place
abbrev pub new_place : List Term → ℕ → Term
new_place moved place = slice_index_or moved place (term 0)

-- the node over the new places of its operands
abbrev pub moved_node : List Term → Node → Node
moved_node moved (Input i) = Input i
moved_node moved Never = Never
moved_node moved (Min a b) = Min (new_place moved a.0) (new_place moved b.0)
moved_node moved (Max a b) = Max (new_place moved a.0) (new_place moved b.0)
moved_node moved (Lt a b) = Lt (new_place moved a.0) (new_place moved b.0)
moved_node moved (Inc a c) = Inc (new_place moved a.0) c

-- the operands of each marked place are marked
abbrev pub HaveOperands : List Node → List Bool → Type 0
HaveOperands nodes marks =
    (place operand : ℕ) → place < length nodes → is_marked marks place ≡ true → IsOperand operand (node_at nodes place) → is_marked marks operand ≡ true

-- the marked ones of the first n places are in a store of their own, each at its new place
pub record AreMoved (nodes : List Node) (marks : List Bool) (n : ℕ) (store : Contents) (moved : List Term) : Type 0 where
  pub is_nodes : IsNodes store.nodes
  pub len : length moved ≡ n
  pub trees_are : trees store.nodes ≡ trees_where nodes (is_marked marks) n
  pub within : (k : ℕ) → k < n → is_marked marks k ≡ true → (new_place moved k).0 < length store.nodes
  pub same : (k : ℕ) → k < n → is_marked marks k ≡ true → tree store.nodes (new_place moved k).0 ≡ tree nodes k
  pub few : length store.nodes ≤ n
  pub room : length nodes ≤ store.spare + n
