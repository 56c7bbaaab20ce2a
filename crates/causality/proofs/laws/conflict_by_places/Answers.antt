use Rattle.causality.proofs.Places.{by_places}
use Rattle.causality.proofs.laws.conflict_by_places.Goals as goal

pub returns : goal.returns
returns c = by_places
