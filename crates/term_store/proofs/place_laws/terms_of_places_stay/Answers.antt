use Rattle.term_store.proofs.Put.{tree_more}
use Rattle.term_store.proofs.place_laws.terms_of_places_stay.Goals as goal

pub returns : goal.returns
returns c = λ old nodes place prefix within. tree_more old nodes place prefix within
