use Rattle.rl_jobs.proofs.OneText.{one_window_text}
use Rattle.rl_jobs.proofs.laws.one_window_text.Goals as goal

pub returns : goal.returns
returns c = one_window_text c.reading_networks.ensures
