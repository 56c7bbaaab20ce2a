use Rattle.rl_jobs.proofs.OneText.{one_module_text}
use Rattle.rl_jobs.proofs.laws.one_module_text.Goals as goal

pub returns : goal.returns
returns c = one_module_text c.reading_sources.ensures c.no_two_places_alike.ensures.law
