use Rattle.std.proofs.Common.{◌∙◌, true, false, arith}
use Rattle.rl_flow.proofs.Asking.{no_number, never_no_number, is_number_word, up_to, not_up_to}
use Rattle.rl_flow.proofs.words.number_word.Goals as goal

pub returns-in_err-number-clause-number : goal.returns-in_err-number-clause-number
returns-in_err-number-clause-number c =
    c.from_residual.ensures ∙ no_number c.args.word.now c.as_bytes.result.now c.args.most c.ranges.most.fits c.as_bytes.ensures.value c.in_err-number.ensures.read

pub returns-then-number-most-clause-number : goal.returns-then-number-most-clause-number
returns-then-number-most-clause-number c =
    is_number_word c.args.word.now c.as_bytes.result.now c.args.most c.in_ok-number.field-0 c.in-At.number true c.as_bytes.ensures.value c.in-At.is c.in_ok-number.ensures.written
    (up_to c.in-At.number c.args.most (omega (arith, c.if-number-most.true)))

pub returns-else-number-most-clause-number : goal.returns-else-number-most-clause-number
returns-else-number-most-clause-number c =
    is_number_word c.args.word.now c.as_bytes.result.now c.args.most c.in_ok-number.field-0 c.in-At.number false c.as_bytes.ensures.value c.in-At.is c.in_ok-number.ensures.written
    (not_up_to c.in-At.number c.args.most (omega (arith, c.if-number-most.false)))

pub returns-in-Never-clause-number : goal.returns-in-Never-clause-number
returns-in-Never-clause-number c = never_no_number c.args.word.now c.as_bytes.result.now c.args.most c.in_ok-number.field-0 c.ranges.most.fits c.as_bytes.ensures.value c.in-Never.is c.in_ok-number.ensures.written
