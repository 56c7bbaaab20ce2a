use Rattle.rl_flow.proofs.OneText.{one_order_text}
use Rattle.rl_flow.proofs.laws.one_order_text.Goals as goal

pub returns : goal.returns
returns c = one_order_text c.reading_modules.ensures c.one_run.ensures.count
