use Rattle.term_store.proofs.Put.{plant_held}
use Rattle.term_store.proofs.place_laws.planted_terms_stay.Goals as goal

pub returns : goal.returns
returns c = λ nodes t place rules within is. plant_held t nodes place rules within is
