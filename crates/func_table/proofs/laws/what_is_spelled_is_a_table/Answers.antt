use Rattle.func_table.proofs.Spelled.{spelled}
use Rattle.func_table.proofs.laws.what_is_spelled_is_a_table.Goals as goal

pub returns : goal.returns
returns c = spelled
