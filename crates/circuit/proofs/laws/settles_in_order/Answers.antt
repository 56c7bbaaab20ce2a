use Rattle.circuit.proofs.Settling.{settles}
use Rattle.circuit.proofs.laws.settles_in_order.Goals as goal

pub returns : goal.returns
returns c = settles
