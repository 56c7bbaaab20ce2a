use Rattle.rl_flow.proofs.OneText.{one_level_text}
use Rattle.rl_flow.proofs.laws.one_level_text.Goals as goal

pub returns : goal.returns
returns c = one_level_text c.reading_modules.ensures
