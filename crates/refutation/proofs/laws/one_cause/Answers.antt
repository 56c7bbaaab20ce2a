use Rattle.refutation.proofs.TextLaws.{one_cause}
use Rattle.refutation.proofs.laws.one_cause.Goals as goal

pub returns : goal.returns
returns c = one_cause c.one_broken.ensures
