use Rattle.case_split.proofs.TermForms.{network_form}
use Rattle.case_split.proofs.laws.networks_have_term_forms.Goals as goal

pub returns : goal.returns
returns c = record { law = network_form }
