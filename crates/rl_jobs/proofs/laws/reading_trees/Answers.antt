use Rattle.rl_jobs.proofs.Checking.{reads_trees}
use Rattle.rl_jobs.proofs.laws.reading_trees.Goals as goal

pub returns : goal.returns
returns c = reads_trees c.one_list_of_trees.ensures c.no_cause.ensures c.one_cause.ensures c.trees_or_a_cause.ensures
