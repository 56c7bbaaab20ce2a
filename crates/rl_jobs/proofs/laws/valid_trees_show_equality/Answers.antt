use Rattle.rl_jobs.proofs.Checking.{all_equal}
use Rattle.rl_jobs.proofs.laws.valid_trees_show_equality.Goals as goal

pub returns : goal.returns
returns c = all_equal c.valid_trees_decide.ensures
