use Rattle.cycle_sim.proofs.Quiet.{quiet_repeats}
use Rattle.cycle_sim.proofs.laws.quiet_cycles_repeat.Goals as goal

pub returns : goal.returns
returns c = quiet_repeats
