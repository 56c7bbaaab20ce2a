use Rattle.diff_bounds.proofs.Cycles.{least_exactly}
use Rattle.diff_bounds.proofs.laws.least_bounds_are_shortest_sums.Goals as goal

pub returns : goal.returns
returns c = record { law = λ edges i j w. least_exactly edges i j w }
