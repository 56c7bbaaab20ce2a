-- The gates of a network: those of its outputs' terms, planted in an empty store.
use Rattle.std.specs.Prelude.{◌≡◌, List, [], length}
use Rattle.net_model.specs.Formula.{Net}
use Rattle.net_model.specs.Rules.{names_of}
use Rattle.term_store.specs.declared.node.Term.{Term}
use Rattle.term_store.specs.declared.node.Node.{Node}
use Rattle.term_store.specs.Terms.{input_trees, let_trees, network_trees}
use Rattle.term_store.specs.Trees.{plant, trees_at}
use Rattle.gate_lower.specs.Netlist.{Netlist}
use Rattle.gate_lower.specs.Lowered.{lowered}

-- the nodes of a store in which the inputs, the lets and the outputs were planted, in this order
abbrev pub planted : Net → List Node
planted n = plant (plant (plant [] (input_trees (length n.inputs))) (let_trees n.lets)) (network_trees n)

-- the gates are those of the outputs' terms, which are at these roots
pub record AreLowered (n : Net) (g : Netlist) : Type 0 where
  pub roots : List Term
  pub roots_are : trees_at (planted n) roots ≡ network_trees n
  pub gates_are : g ≡ lowered (planted n) roots n.inputs (names_of n.outputs)
