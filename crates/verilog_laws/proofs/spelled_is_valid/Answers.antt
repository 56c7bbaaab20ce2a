use Rattle.verilog_laws.proofs.Spelled.{spelled_valid}
use Rattle.verilog_laws.proofs.spelled_is_valid.Goals as goal

pub returns : goal.returns
returns c = spelled_valid
