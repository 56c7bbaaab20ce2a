use Rattle.rl_jobs.specs.Checked.{three_texts}
use Rattle.rl_jobs.proofs.Checking.{handed_on}
use Rattle.rl_jobs.proofs.check.check.Goals as goal

pub returns-in_err-trees-clause-cause : goal.returns-in_err-trees-clause-cause
returns-in_err-trees-clause-cause c =
    handed_on c.from_residual-in_err-trees.result (three_texts c.args.first.now c.args.second.now c.args.trees.now) (c.in_ok-first.first, c.in_ok-second.second) c.in_err-trees.field-0.0
    c.from_residual-in_err-trees.ensures.1 (c.in_ok-first.ensures.network, c.in_ok-second.ensures.network) c.in_err-trees.ensures.cause
