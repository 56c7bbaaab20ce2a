use Rattle.std.proofs.Common.{◌∙◌, ◌<◌, ◌^◌, sym, ap, subst}
use Rattle.std.specs.Prelude.{decimal}
use Rattle.rl_time.proofs.Texts.{never_read, number_read, nothing_read, number_written}
use Rattle.rl_time.proofs.text.read_time.Goals as goal

pub returns-then-is_never-clause-read : goal.returns-then-is_never-clause-read
returns-then-is_never-clause-read c = never_read c.args.text.now c.if-is_never.ensures.yes

pub returns-in_err-number-clause-read : goal.returns-in_err-number-clause-read
returns-in_err-number-clause-read c = λ t fits is. absurd (nothing_read c.args.text.now c.if-is_never.ensures.no c.in_err-number.ensures t fits is)

pub returns-clause-written : goal.returns-clause-written
returns-clause-written c =
    let value = sym c.in_ok-number.ensures.1 in
    (subst (λ n. n < 2 ^ 64) value c.in_ok-number.ensures.0.fits, number_written c.args.text.now c.in_ok-number.ensures.0 ∙ ap decimal value)

pub returns-clause-read : goal.returns-clause-read
returns-clause-read c = number_read c.args.text.now c.in_ok-number.number c.in_ok-number.ensures.0 c.in_ok-number.ensures.1
