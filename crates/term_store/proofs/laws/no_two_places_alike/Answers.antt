use Rattle.term_store.proofs.Distinct.{distinct_trees}
use Rattle.term_store.proofs.laws.no_two_places_alike.Goals as goal

pub returns : goal.returns
returns c = record { law = λ ns s. distinct_trees ns s }
