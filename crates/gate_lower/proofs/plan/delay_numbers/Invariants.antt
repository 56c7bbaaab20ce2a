use Rattle.std.proofs.Common.{◌≡◌, map}
use Rattle.term_store.specs.Places.{places}
use Rattle.gate_lower.specs.Planned.{count_positive}
use Rattle.gate_lower.proofs.plan.delay_numbers.Given as goal

abbrev pub invariant-loop-delay : goal.invariant-loop-delay
invariant-loop-delay l = (l.numbers.items ≡ map (count_positive l.longest) (places l.delay-index)) × (l.count ≡ count_positive l.longest l.delay-index)
