use Rattle.refutation.proofs.TextLaws.{answer}
use Rattle.refutation.proofs.laws.trees_or_a_cause.Goals as goal

pub returns : goal.returns
returns c text = answer text (c.always_one.ensures text)
