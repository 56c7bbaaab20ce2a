use Rattle.std.proofs.Common.{◌≡◌, map}
use Rattle.std.specs.Prelude.{filter}
use Rattle.term_store.specs.Places.{places}
use Rattle.gate_lower.specs.Lowered.{is_gate, gate_at}
use Rattle.gate_lower.proofs.lowering.gates.Given as goal

abbrev pub invariant-loop-place : goal.invariant-loop-place
invariant-loop-place l = l.gates.items ≡ map (gate_at l.store.nodes l.plan.marks.items) (filter (is_gate l.store.nodes l.plan.marks.items) (places l.place))
