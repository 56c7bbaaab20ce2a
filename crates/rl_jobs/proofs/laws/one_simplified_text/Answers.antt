use Rattle.rl_jobs.proofs.OneSimplified.{one_simplified_text}
use Rattle.rl_jobs.proofs.laws.one_simplified_text.Goals as goal

pub returns : goal.returns
returns c = one_simplified_text c.reading_networks.ensures c.no_two_places_alike.ensures.law
