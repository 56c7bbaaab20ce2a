use Rattle.verilog_read.proofs.Verdicts.{few_outputs, output_broken, output_stands}
use Rattle.verilog_read.proofs.declarations.read_output.Goals as goal

pub returns-then-output_misnamed : goal.returns-then-output_misnamed
returns-then-output_misnamed c = λ x h. output_broken c.args.draft.now x h c.args.name.now c.output_misnamed.result c.output_misnamed.ensures c.if-output_misnamed.true

pub push_output-requires : goal.push_output-requires
push_output-requires c = few_outputs c.args.draft.now c.requires.0 c.requires.1

pub returns : goal.returns
returns c = λ x h more. let rule = output_stands c.args.draft.now x h c.args.name.now c.output_misnamed.result c.output_misnamed.ensures c.if-output_misnamed.false in (rule, c.in_ok-push_output.ensures x h (more rule) rule)
