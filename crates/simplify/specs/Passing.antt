-- What the steps of simplifying keep.
use Rattle.std.specs.Prelude.{◌≡◌, ℕ, ◌<◌, ◌≤◌, Bool, true, List, length}
use Rattle.term_store.specs.declared.node.Term.{Term}
use Rattle.term_store.specs.declared.node.Node.{Node}
use Rattle.term_store.specs.Tree.{span}
use Rattle.term_store.specs.Nodes.{node_at}
use Rattle.term_store.specs.Trees.{tree}
use Rattle.term_store.specs.Reach.{IsOperand}
use Rattle.term_store.specs.Places.{is_marked}
use Rattle.term_store.specs.Compacted.{new_place}
use Rattle.simplify.specs.Simplified.{simplified}

-- the marked places have their operands among them, and are not much later than inputs
pub record AreMarked (nodes : List Node) (marks : List Bool) : Type 0 where
  pub len : length marks ≤ length nodes
  pub operands : (place operand : ℕ) → place < length marks → is_marked marks place ≡ true → IsOperand operand (node_at nodes place) → is_marked marks operand ≡ true
  pub short : (place : ℕ) → place < length marks → is_marked marks place ≡ true → span (tree nodes place) ≤ 1000000

-- the marked ones of the first n places are simplified
pub record AreSimplified (nodes : List Node) (marks : List Bool) (n : ℕ) (became : List Term) : Type 0 where
  pub len : length became ≡ n
  pub within : (k : ℕ) → k < n → is_marked marks k ≡ true → (new_place became k).0 < length nodes
  pub same : (k : ℕ) → k < n → is_marked marks k ≡ true → tree nodes (new_place became k).0 ≡ simplified (tree nodes k)

-- each operand of the node is simplified
abbrev pub HasSimplified : List Node → List Term → Node → Type 0
HasSimplified nodes became n = (k : ℕ) → IsOperand k n → ((new_place became k).0 < length nodes) × (tree nodes (new_place became k).0 ≡ simplified (tree nodes k))
