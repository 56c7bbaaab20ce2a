use Rattle.term_store.proofs.TermValues.{values_are}
use Rattle.term_store.proofs.laws.terms_have_the_networks_values.Goals as goal

pub returns : goal.returns
returns c = record { law = λ n x. values_are n x }
