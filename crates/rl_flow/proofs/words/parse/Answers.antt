use Rattle.std.proofs.Common.{arith}
use Rattle.rl_flow.proofs.Asking.{no_words}
use Rattle.rl_flow.proofs.words.parse.Goals as goal

pub returns-in_default-clause-command : goal.returns-in_default-clause-command
returns-in_default-clause-command c = no_words c.args.words.now (omega (arith, c.in_default.len_below))
