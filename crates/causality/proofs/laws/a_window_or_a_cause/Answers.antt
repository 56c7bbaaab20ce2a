use Rattle.causality.proofs.Causes.{table_or_cause}
use Rattle.causality.proofs.laws.a_window_or_a_cause.Goals as goal

pub returns : goal.returns
returns c = table_or_cause
