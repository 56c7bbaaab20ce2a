use Rattle.rl_jobs.proofs.Pairing.{pairs}
use Rattle.rl_jobs.proofs.laws.pairing.Goals as goal

pub returns : goal.returns
returns c = pairs c.reading_networks.ensures
