use Rattle.simplify.specs.Simplified.{simplified}
use Rattle.simplify.proofs.Reduced.{simplified_is_reduced, reduced_stays}
use Rattle.simplify.proofs.laws.simplified_terms_are_reduced.Goals as goal

pub returns : goal.returns
returns c = record {
  reduced = simplified_is_reduced;
  stays = reduced_stays;
  twice = λ t. reduced_stays (simplified t) (simplified_is_reduced t);
}
