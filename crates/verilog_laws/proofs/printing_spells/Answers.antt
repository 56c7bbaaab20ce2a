use Rattle.verilog_laws.proofs.PrintedModule.{printed}
use Rattle.verilog_laws.proofs.printing_spells.Goals as goal

pub returns : goal.returns
returns c = printed c.front_is_longest.ensures
