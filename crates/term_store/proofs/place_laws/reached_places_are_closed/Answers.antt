use Rattle.term_store.proofs.Counted.{marks_closed}
use Rattle.term_store.proofs.place_laws.reached_places_are_closed.Goals as goal

pub returns : goal.returns
returns c = marks_closed
