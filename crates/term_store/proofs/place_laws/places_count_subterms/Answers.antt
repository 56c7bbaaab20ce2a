use Rattle.term_store.proofs.Counted.{counts_right}
use Rattle.term_store.proofs.place_laws.places_count_subterms.Goals as goal

pub returns : goal.returns
returns c = counts_right
