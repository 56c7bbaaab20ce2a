use Rattle.verilog_read.proofs.Zeros.{zero_some, zero_none}
use Rattle.verilog_read.proofs.actions.are_zero_bits.Goals as goal

pub returns-in-Some : goal.returns-in-Some
returns-in-Some c = zero_some c.args.bits.now c.in-Some.digits.now c.args.width c.is_decimal.result c.in-Some.ensures.cases.0 c.in-Some.ensures.cases.1 c.is_decimal.ensures

pub returns-in-None : goal.returns-in-None
returns-in-None c = zero_none c.args.bits.now c.args.width c.in-None.ensures.cases
