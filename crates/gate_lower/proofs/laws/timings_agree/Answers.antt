use Rattle.gate_lower.proofs.OneTiming.{timings_agree}
use Rattle.gate_lower.proofs.laws.timings_agree.Goals as goal

pub returns : goal.returns
returns c = timings_agree
