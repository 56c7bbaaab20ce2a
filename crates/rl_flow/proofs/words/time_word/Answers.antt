use Rattle.std.proofs.Common.{◌∙◌, true, false, arith}
use Rattle.rl_flow.proofs.Asking.{unread, writes_time, early, late}
use Rattle.rl_flow.proofs.words.time_word.Goals as goal

pub returns-in_err-number-clause-time : goal.returns-in_err-number-clause-time
returns-in_err-number-clause-time c = c.from_residual.ensures ∙ unread c.args.word.now c.as_bytes.result.now c.as_bytes.ensures.value c.in_err-number.ensures.read

pub returns-then-number-le1000000000000-clause-time : goal.returns-then-number-le1000000000000-clause-time
returns-then-number-le1000000000000-clause-time c =
    writes_time c.args.word.now c.as_bytes.result.now c.in_ok-number.field-0 c.in-At.number true c.as_bytes.ensures.value c.in-At.is c.in_ok-number.ensures.read c.in_ok-number.ensures.written
    (early c.in-At.number (omega (arith, c.if-number-le1000000000000.true)))

pub returns-else-number-le1000000000000-clause-time : goal.returns-else-number-le1000000000000-clause-time
returns-else-number-le1000000000000-clause-time c =
    writes_time c.args.word.now c.as_bytes.result.now c.in_ok-number.field-0 c.in-At.number false c.as_bytes.ensures.value c.in-At.is c.in_ok-number.ensures.read c.in_ok-number.ensures.written
    (late c.in-At.number (omega (arith, c.if-number-le1000000000000.false)))
