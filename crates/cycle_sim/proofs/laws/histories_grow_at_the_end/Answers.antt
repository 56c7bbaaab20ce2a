use Rattle.cycle_sim.proofs.Histories.{ran_on}
use Rattle.cycle_sim.proofs.laws.histories_grow_at_the_end.Goals as goal

pub returns-clause-grown : goal.returns-clause-grown
returns-clause-grown c = ran_on
