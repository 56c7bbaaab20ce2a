use Rattle.rl_jobs.proofs.Judging.{compiles}
use Rattle.rl_jobs.proofs.laws.compiling.Goals as goal

pub returns : goal.returns
returns c = compiles c.reading_sources.ensures
