use Rattle.std.proofs.Common.{arith}
use Rattle.levels.proofs.Stretches.{calm_levels}
use Rattle.levels.proofs.rises.next_rise.Goals as goal

pub returns-clause-inputs : goal.returns-clause-inputs
returns-clause-inputs c = calm_levels c.args.rises.now c.args.cycle c.loop-rise.next c.loop-rise.rise-index c.loop-rise.invariant.calm (omega (arith, c.loop-rise-test.false))
