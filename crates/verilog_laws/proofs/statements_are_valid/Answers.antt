use Rattle.verilog_laws.proofs.Spelled.{words_valid}
use Rattle.verilog_laws.proofs.statements_are_valid.Goals as goal

pub returns : goal.returns
returns c = words_valid
