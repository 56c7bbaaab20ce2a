-- A store of the terms of two outputs, and of nothing else.
use Rattle.std.specs.Prelude.{◌≡◌, ℕ, ◌<◌, List, [], ◌∷◌, length}
use Rattle.std.specs.List.{All}
use Rattle.term_store.specs.declared.node.Term.{Term}
use Rattle.term_store.specs.declared.node.Node.{Node}
use Rattle.term_store.specs.Reach.{IsReached}
use Rattle.term_store.specs.Trees.{trees_at}
use Rattle.tree_check.specs.Valid.{Pair}
use Rattle.case_split.specs.Live.{pair_terms}

-- the two places have the terms of the outputs, and reach all nodes
pub record IsPart (pair : Pair) (nodes : List Node) (first second : Term) : Type 0 where
  pub within : All (λ r. r.0 < length nodes) (first ∷ second ∷ [])
  pub reached : (place : ℕ) → place < length nodes → IsReached nodes (first ∷ second ∷ []) place
  pub terms : trees_at nodes (first ∷ second ∷ []) ≡ pair_terms pair
