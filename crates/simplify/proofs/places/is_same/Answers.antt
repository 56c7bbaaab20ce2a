use Rattle.simplify.proofs.At.{same_at}
use Rattle.simplify.proofs.places.is_same.Goals as goal

pub returns : goal.returns
returns c = same_at _ _ _ c.requires.nodes c.requires.a c.requires.b
