use Rattle.big_input.proofs.Rules.{is_network}
use Rattle.big_input.proofs.laws.big_networks_are_networks.Goals as goal

pub returns : goal.returns
returns c = is_network
