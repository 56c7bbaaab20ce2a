use Rattle.diff_bounds.proofs.Cycles.{met_exactly}
use Rattle.diff_bounds.proofs.laws.met_exactly_without_negative_cycles.Goals as goal

pub returns : goal.returns
returns c = record { law = λ edges. met_exactly edges }
