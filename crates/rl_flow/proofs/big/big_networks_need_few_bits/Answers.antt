use Rattle.rl_flow.proofs.ShortDelays.{big_bits}
use Rattle.rl_flow.proofs.big.big_networks_need_few_bits.Goals as goal

pub returns : goal.returns
returns c = big_bits c.big_networks_are_networks.ensures c.network_terms_are_few.ensures.law
