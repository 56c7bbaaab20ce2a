use Rattle.circuit.proofs.Histories.{one_history}
use Rattle.circuit.proofs.laws.one_history.Goals as goal

pub returns : goal.returns
returns c = λ m us ordered. one_history m ordered us
