use Rattle.circuit.proofs.Tested.{valid-from_test}
use Rattle.circuit.proofs.validity_laws.test_shows_validity.Goals as goal

pub returns : goal.returns
returns c = valid-from_test
