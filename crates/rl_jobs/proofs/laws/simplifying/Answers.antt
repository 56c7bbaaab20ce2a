use Rattle.rl_jobs.proofs.laws.simplifying.Goals as goal

pub returns : goal.returns
returns c = c.reading_networks.ensures 1
