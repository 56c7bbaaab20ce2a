use Rattle.std.proofs.Common.{◌≡◌, map}
use Rattle.term_store.specs.Places.{places}
use Rattle.gate_lower.specs.Lowered.{gate_number}
use Rattle.gate_lower.proofs.plan.gate_numbers.Given as goal

abbrev pub invariant-loop-place : goal.invariant-loop-place
invariant-loop-place l = (l.numbers.items ≡ map (gate_number l.store.nodes l.marks) (places l.place)) × (l.count ≡ gate_number l.store.nodes l.marks l.place)
