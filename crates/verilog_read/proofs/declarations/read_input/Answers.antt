use Rattle.verilog_read.proofs.Verdicts.{few_inputs, input_broken, input_stands}
use Rattle.verilog_read.proofs.declarations.read_input.Goals as goal

pub returns-then-input_misnamed : goal.returns-then-input_misnamed
returns-then-input_misnamed c = λ x h. input_broken c.args.draft.now x h c.args.name.now c.input_misnamed.result c.input_misnamed.ensures c.if-input_misnamed.true

pub push_input-requires-clause-few : goal.push_input-requires-clause-few
push_input-requires-clause-few c = few_inputs c.args.draft.now c.requires.0 c.requires.1

pub returns-in_ok-push_clock : goal.returns-in_ok-push_clock
returns-in_ok-push_clock c = λ x h more. let rule = input_stands c.args.draft.now x h c.args.name.now c.input_misnamed.result c.input_misnamed.ensures c.if-input_misnamed.false in (rule, c.in_ok-push_clock.ensures x h (more rule) rule)

pub returns-in_ok-push_input : goal.returns-in_ok-push_input
returns-in_ok-push_input c = λ x h more. let rule = input_stands c.args.draft.now x h c.args.name.now c.input_misnamed.result c.input_misnamed.ensures c.if-input_misnamed.false in (rule, c.in_ok-push_input.ensures x h (more rule) rule)
