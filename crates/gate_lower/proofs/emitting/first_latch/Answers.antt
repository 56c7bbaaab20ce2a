use Rattle.std.proofs.Common.{arith}
use Rattle.gate_lower.proofs.Validity.{few_delays}
use Rattle.gate_lower.proofs.emitting.first_latch.Goals as goal

pub overflow_cast-result : goal.overflow_cast-result
overflow_cast-result c = rw c.delays.ensures (omega (arith, few_delays c.args.g.now c.requires))

pub returns-clause-few : goal.returns-clause-few
returns-clause-few c = rw c.delays.ensures (few_delays c.args.g.now c.requires)
