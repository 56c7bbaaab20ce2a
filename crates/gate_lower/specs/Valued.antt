-- The values of the terms that gates and delays are of.
use Rattle.std.specs.Prelude.{ℕ, List, slice_index_or}
use Rattle.rl_time.specs.declared.time.Time.{Time}
use Rattle.term_store.specs.declared.node.Term.{Term}
use Rattle.term_store.specs.declared.node.Node.{Node}
use Rattle.term_store.specs.Tree.{value}
use Rattle.term_store.specs.Trees.{tree}
use Rattle.term_store.specs.Places.{reach_marks}
use Rattle.gate_lower.specs.Netlist.{Netlist}
use Rattle.gate_lower.specs.Timing.{IsTiming}
use Rattle.gate_lower.specs.Lowered.{gate_places, delay_places}

-- the value of the term of gate k, at these times of the inputs
abbrev pub gate_value : List Node → List Term → List Time → ℕ → Time
gate_value nodes roots x k = value x (tree nodes (slice_index_or (gate_places nodes (reach_marks nodes roots)) k 0))

-- the value of the term that delay n delays
abbrev pub delay_value : List Node → List Term → List Time → ℕ → Time
delay_value nodes roots x n = value x (tree nodes (slice_index_or (delay_places nodes (reach_marks nodes roots)) n 0))

-- the timing of the gates: each gate and each delay has the value of its term
abbrev pub HaveTermsValues : List Node → List Term → Netlist → Type 0
HaveTermsValues nodes roots g = (x : List Time) → IsTiming g x (gate_value nodes roots x) (delay_value nodes roots x)
