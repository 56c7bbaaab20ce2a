use Rattle.causality.proofs.Following.{causal}
use Rattle.causality.proofs.laws.tables_are_causal.Goals as goal

pub returns : goal.returns
returns c = causal c.the_matching_row_decides.ensures
