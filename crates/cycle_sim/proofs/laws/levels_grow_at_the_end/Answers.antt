use Rattle.levels.proofs.Grown.{levels_on}
use Rattle.cycle_sim.proofs.laws.levels_grow_at_the_end.Goals as goal

pub returns : goal.returns
returns c = levels_on
