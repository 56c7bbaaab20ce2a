use Rattle.minterm.proofs.Ports.{are_ports}
use Rattle.minterm.proofs.laws.table_names_are_ports.Goals as goal

pub returns : goal.returns
returns c = are_ports
