use Rattle.rl_flow.proofs.Simulated.{simulated}
use Rattle.rl_flow.proofs.laws.compiled_modules_are_simulated.Goals as goal

pub returns : goal.returns
returns c = simulated (c.reading_sources.ensures 1) c.one_text.ensures
