-- What roots reach: themselves, the operands of their nodes, the operands of those, and so on.
use Rattle.std.specs.Prelude.{◌≡◌, ℕ, ◌<◌, ◌⊎◌, ◌==◌, Bool, true, IsTrue, List, length}
use Rattle.std.specs.List.{All, list_any}
use Rattle.term_store.specs.declared.node.Term.{Term}
use Rattle.term_store.specs.declared.node.Node.{Node}
use Rattle.term_store.specs.declared.node.Node.TheVariants.{Input, Never, Min, Max, Lt, Inc}
use Rattle.term_store.specs.Nodes.{node_at}
use Rattle.term_store.specs.Subterms.{is_among, all_subterms}
use Rattle.term_store.specs.Trees.{tree, trees_at}

-- the term of the place is a subterm of a root's
abbrev pub is_reached : List Node → List Term → ℕ → Bool
is_reached nodes roots place = is_among (tree nodes place) (all_subterms (trees_at nodes roots))

-- the roots reach the place
abbrev pub IsReached : List Node → List Term → ℕ → Type 0
IsReached nodes roots place = IsTrue (is_reached nodes roots place)

-- the place is one of the roots
abbrev pub is_root : List Term → ℕ → Bool
is_root roots place = list_any (λ r. r.0 == place) roots

-- the place is an operand of the node
abbrev pub IsOperand : ℕ → Node → Type 0
IsOperand place (Input i) = ⊥
IsOperand place Never = ⊥
IsOperand place (Min a b) = (place ≡ a.0) ⊎ (place ≡ b.0)
IsOperand place (Max a b) = (place ≡ a.0) ⊎ (place ≡ b.0)
IsOperand place (Lt a b) = (place ≡ a.0) ⊎ (place ≡ b.0)
IsOperand place (Inc a c) = place ≡ a.0

-- the marked places have the roots among them, and the operands of each of them
pub record IsClosed (nodes : List Node) (roots : List Term) (marked : ℕ → Bool) : Type 0 where
  pub has_roots : All (λ r. marked r.0 ≡ true) roots
  pub has_operands : (place operand : ℕ) → place < length nodes → marked place ≡ true → IsOperand operand (node_at nodes place) → marked operand ≡ true

-- the reached places have the roots among them, and the operands of each of them, and are no more than that takes
pub record AreLeastClosed (nodes : List Node) (roots : List Term) : Type 0 where
  pub has_roots : All (λ r. IsReached nodes roots r.0) roots
  pub has_operands : (place operand : ℕ) → place < length nodes → IsReached nodes roots place → IsOperand operand (node_at nodes place) → IsReached nodes roots operand
  pub least : (marked : ℕ → Bool) → IsClosed nodes roots marked → (place : ℕ) → place < length nodes → IsReached nodes roots place → marked place ≡ true
