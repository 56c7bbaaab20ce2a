use Rattle.std.proofs.Common.{◌≡◌, take}
use Rattle.std.specs.Prelude.{sum_by}
use Rattle.rl_flow.proofs.compiling.register_bits.Given as goal

abbrev pub invariant-loop-register : goal.invariant-loop-register
invariant-loop-register l = l.bits ≡ sum_by (λ r. r.width) (take l.register-index l.registers)
