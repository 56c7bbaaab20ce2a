use Rattle.std.proofs.Common.{◌≡◌, ◌≤◌, ◌*◌, take}
use Rattle.std.specs.Prelude.{sum_by}
use Rattle.gate_lower.proofs.lowering.delay_bits.Given as goal

abbrev pub invariant-loop-delay : goal.invariant-loop-delay
invariant-loop-delay l = (l.bits ≡ sum_by (λ delay. delay) (take l.delay-index l.longest)) × (l.bits ≤ l.delay-index * 4294967296)
