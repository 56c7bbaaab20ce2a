-- What holds of the terms of networks, and of the places of a store.
use Rattle.std.specs.Prelude.{◌≡◌, ℕ, ◌<◌, List, length, map}
use Rattle.rl_time.specs.declared.time.Time.{Time}
use Rattle.net_model.specs.Formula.{Net}
use Rattle.net_model.specs.Value.{space_time_function}
use Rattle.term_store.specs.declared.node.Node.{Node}
use Rattle.term_store.specs.Tree.{value}
use Rattle.term_store.specs.Terms.{network_trees}
use Rattle.term_store.specs.Trees.{tree}

-- the outputs' terms have the times that the network gives its outputs
abbrev pub HaveItsValues : Net → Type 0
HaveItsValues n = (x : List Time) → map (value x) (network_trees n) ≡ space_time_function n x

-- no two places of the nodes have the same term
abbrev pub AreApart : List Node → Type 0
AreApart nodes = (i j : ℕ) → i < length nodes → j < length nodes → tree nodes i ≡ tree nodes j → i ≡ j
