use Rattle.gate_lower.proofs.SomeTiming.{timing_exists}
use Rattle.gate_lower.proofs.laws.timing_exists.Goals as goal

pub returns : goal.returns
returns c = timing_exists
