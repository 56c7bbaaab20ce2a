use Rattle.rl_time.proofs.Texts.{is_utf8}
use Rattle.rl_time.proofs.text.read_number.Goals as goal

pub returns-in_default : goal.returns-in_default
returns-in_default c = λ number. c.in_default.ensures.cases.0 (is_utf8 c.args.text.now number)
