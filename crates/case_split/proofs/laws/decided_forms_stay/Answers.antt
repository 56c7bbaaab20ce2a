use Rattle.case_split.proofs.Stays.{forms_stay}
use Rattle.case_split.proofs.laws.decided_forms_stay.Goals as goal

pub returns : goal.returns
returns c = record { law = forms_stay }
