use Rattle.term_store.proofs.FewTerms.{network_terms}
use Rattle.term_store.proofs.laws.network_terms_are_few.Goals as goal

pub returns : goal.returns
returns c = record { law = λ n rules. network_terms n rules }
