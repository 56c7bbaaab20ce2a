use Rattle.rl_jobs.proofs.OneText.{one_value_text}
use Rattle.rl_jobs.proofs.laws.one_value_text.Goals as goal

pub returns : goal.returns
returns c = one_value_text c.reading_sources.ensures
