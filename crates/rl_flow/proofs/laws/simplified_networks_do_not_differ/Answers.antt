use Rattle.rl_flow.proofs.Equal.{never_differ}
use Rattle.rl_flow.proofs.laws.simplified_networks_do_not_differ.Goals as goal

pub returns : goal.returns
returns c = λ budget. never_differ c.reading_networks.ensures
