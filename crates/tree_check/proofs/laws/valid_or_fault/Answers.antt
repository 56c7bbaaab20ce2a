use Rattle.tree_check.proofs.Verdicts.{valid-of-verdict, verdict-of-valid}
use Rattle.tree_check.proofs.laws.valid_or_fault.Goals as goal

pub returns : goal.returns
returns c premises pair items = (valid-of-verdict pair premises items, verdict-of-valid pair premises items)
