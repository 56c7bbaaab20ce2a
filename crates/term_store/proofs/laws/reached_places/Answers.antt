use Rattle.term_store.proofs.Marks.{least_closed}
use Rattle.term_store.proofs.laws.reached_places.Goals as goal

pub returns : goal.returns
returns c = record { law = λ ns roots s w. least_closed ns roots s w }
