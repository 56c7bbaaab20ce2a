-- Room in a store for nodes to be added.
use Rattle.std.specs.Prelude.{ℕ, ◌≤◌, ◌+◌, length}
use Rattle.term_store.specs.Nodes.{Contents}

-- the store has room for k nodes more
pub record HasRoom (store : Contents) (k : ℕ) : Type 0 where
  pub places : length store.nodes + k ≤ 262144
  pub memory : k ≤ store.spare

-- at most k nodes were added
pub record TakesRoom (old new : Contents) (k : ℕ) : Type 0 where
  pub places : length new.nodes ≤ length old.nodes + k
  pub memory : old.spare ≤ new.spare + k
