use Rattle.rl_flow.proofs.Judging.{simulates}
use Rattle.rl_flow.proofs.laws.simulating.Goals as goal

pub returns : goal.returns
returns c = simulates c.reading_modules.ensures
