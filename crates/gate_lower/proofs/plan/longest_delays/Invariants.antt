use Rattle.std.proofs.Common.{◌≡◌, map, length}
use Rattle.term_store.specs.Places.{places, longest_upto}
use Rattle.gate_lower.proofs.plan.longest_delays.Given as goal

abbrev pub invariant-loop-place : goal.invariant-loop-place
invariant-loop-place l = l.longest.items ≡ map (longest_upto l.store.nodes l.marks l.place) (places (length l.store.nodes))
