use Rattle.rl_jobs.proofs.OneText.{one_synthesis_text}
use Rattle.rl_jobs.proofs.laws.one_synthesis_text.Goals as goal

pub returns : goal.returns
returns c = one_synthesis_text c.reading_tables.ensures c.no_two_places_alike.ensures.law
