use Rattle.verilog_read.proofs.Reached.{end_broken, end_stands}
use Rattle.verilog_read.proofs.judging.read_end.Goals as goal

pub returns-then-is_unfinished : goal.returns-then-is_unfinished
returns-then-is_unfinished c = λ x h. end_broken c.args.draft.now x h c.is_unfinished.result c.is_unfinished.ensures c.if-is_unfinished.true

pub returns : goal.returns
returns c = λ x h more. (end_stands c.args.draft.now x h c.is_unfinished.result c.is_unfinished.ensures c.if-is_unfinished.false, h)
