use Rattle.rl_jobs.proofs.Judging.{reads_networks}
use Rattle.rl_jobs.proofs.laws.reading_networks.Goals as goal

pub returns : goal.returns
returns c = reads_networks c.one_network.ensures c.no_cause.ensures c.one_cause.ensures c.a_network_or_a_cause.ensures
