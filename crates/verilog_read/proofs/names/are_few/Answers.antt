use Rattle.std.proofs.lemmas.List.{take_rest}
use Rattle.verilog_read.proofs.Ports.{few_then, few_else}
use Rattle.verilog_read.proofs.names.are_few.Goals as goal

pub returns-then-is_few : goal.returns-then-is_few
returns-then-is_few c = few_then c.args.ports.now _ (take_rest c.args.ports.now 2) c.inputs_in-inputs.result c.inputs_in-inputs.ensures.count c.is_few.result c.is_few-then-is_few.result c.is_few.ensures c.if-is_few.true c.is_few-then-is_few.ensures

pub returns-else-is_few : goal.returns-else-is_few
returns-else-is_few c = few_else c.args.ports.now _ (take_rest c.args.ports.now 2) c.inputs_in-inputs.result c.inputs_in-inputs.ensures.count c.is_few.result c.is_few.ensures c.if-is_few.false
