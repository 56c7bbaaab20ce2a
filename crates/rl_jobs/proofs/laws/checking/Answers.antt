use Rattle.rl_jobs.proofs.Checking.{checks}
use Rattle.rl_jobs.proofs.laws.checking.Goals as goal

pub returns : goal.returns
returns c = checks c.reading_networks.ensures c.reading_trees.ensures
