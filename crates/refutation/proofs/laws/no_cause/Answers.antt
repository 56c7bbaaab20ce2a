use Rattle.refutation.proofs.TextLaws.{no_cause}
use Rattle.refutation.proofs.laws.no_cause.Goals as goal

pub returns : goal.returns
returns c = no_cause c.never_both.ensures
