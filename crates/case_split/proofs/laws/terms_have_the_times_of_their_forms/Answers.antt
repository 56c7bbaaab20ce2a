use Rattle.case_split.proofs.Values.{terms_have_times}
use Rattle.case_split.proofs.laws.terms_have_the_times_of_their_forms.Goals as goal

pub returns : goal.returns
returns c = record { law = terms_have_times }
