use Rattle.term_store.proofs.ExtractedIs.{own_ports}
use Rattle.term_store.proofs.laws.network_names_are_ports.Goals as goal

pub returns : goal.returns
returns c = record { law = λ n rules. own_ports n rules }
