use Rattle.std.proofs.Common.{arith, ◌≡◌, ◌∙◌, sym, ap, Some, length}
use Rattle.rl_flow.specs.Request.{task}
use Rattle.rl_flow.specs.Words.{texts_of}
use Rattle.rl_flow.proofs.Timed.{one_limit, length_one}
use Rattle.rl_flow.proofs.words.of_one_file.Goals as goal

pub returns-clause-each : goal.returns-clause-each
returns-clause-each c =
    one_limit c.args.command.now _ (task c.in_ok-request.request) (sym c.in_ok-request.ensures.task)
    ∙ length_one c.args.words.now (omega (arith, c.in-len1-up.len_at_least))
