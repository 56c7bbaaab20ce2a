use Rattle.refutation.proofs.Spelled.{spelled}
use Rattle.refutation.proofs.laws.what_is_spelled_are_trees.Goals as goal

pub returns : goal.returns
returns c = spelled
