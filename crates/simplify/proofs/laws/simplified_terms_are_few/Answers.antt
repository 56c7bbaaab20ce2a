use Rattle.simplify.proofs.Fewer.{fewer_joins, fewer_delays, still_network_terms}
use Rattle.simplify.proofs.laws.simplified_terms_are_few.Goals as goal

pub returns : goal.returns
returns c = record { joins = fewer_joins; delays = fewer_delays; network_terms = still_network_terms }
