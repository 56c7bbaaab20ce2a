use Rattle.circuit.proofs.Settling.{one_settled}
use Rattle.circuit.proofs.laws.one_settled.Goals as goal

pub returns : goal.returns
returns c = one_settled
