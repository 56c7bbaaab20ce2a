use Rattle.causality.proofs.Shifting.{invariant}
use Rattle.causality.proofs.laws.tables_are_invariant.Goals as goal

pub returns : goal.returns
returns c = invariant
