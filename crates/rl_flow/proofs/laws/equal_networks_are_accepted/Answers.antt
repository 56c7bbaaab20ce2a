use Rattle.rl_flow.proofs.Equal.{accepted}
use Rattle.rl_flow.proofs.laws.equal_networks_are_accepted.Goals as goal

pub returns : goal.returns
returns c = accepted
