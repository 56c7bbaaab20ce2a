use Rattle.rl_jobs.proofs.Judging.{evaluates}
use Rattle.rl_jobs.proofs.laws.evaluating.Goals as goal

pub returns : goal.returns
returns c = evaluates c.reading_sources.ensures
