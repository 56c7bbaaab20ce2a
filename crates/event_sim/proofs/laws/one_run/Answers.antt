use Rattle.std.proofs.Common.{false}
use Rattle.levels.specs.Levels.{all_low}
use Rattle.event_sim.proofs.Agreeing.{same_runs}
use Rattle.event_sim.proofs.laws.one_run.Goals as goal

pub returns-clause-states : goal.returns-clause-states
returns-clause-states c = λ m ks us a b i j p q. (same_runs m ks false (all_low m) us a b i j p q).states

pub returns-clause-count : goal.returns-clause-count
returns-clause-count c = λ m ks us a b i j p q. (same_runs m ks false (all_low m) us a b i j p q).count
