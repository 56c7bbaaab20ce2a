use Rattle.rl_jobs.proofs.Judging.{reads_sources}
use Rattle.rl_jobs.proofs.laws.reading_sources.Goals as goal

pub returns : goal.returns
returns c = reads_sources c.one_first_word.ensures c.a_first_word_or_none.ensures c.reading_networks.ensures c.reading_tables.ensures
