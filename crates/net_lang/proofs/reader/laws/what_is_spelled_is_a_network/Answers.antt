use Rattle.net_lang.proofs.Partial.{spelled}
use Rattle.net_lang.proofs.reader.laws.what_is_spelled_is_a_network.Goals as goal

pub returns : goal.returns
returns c = spelled
