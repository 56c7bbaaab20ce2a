use Rattle.rl_jobs.proofs.laws.synthesising.Goals as goal

pub returns : goal.returns
returns c = c.reading_tables.ensures 1
