use Rattle.circuit.proofs.Numbered.{numbered_names}
use Rattle.circuit.proofs.validity_laws.numbered_names_are_valid.Goals as goal

pub returns : goal.returns
returns c = numbered_names
