use Rattle.rl_jobs.proofs.Judging.{tabulates}
use Rattle.rl_jobs.proofs.laws.tabulating.Goals as goal

pub returns : goal.returns
returns c = tabulates c.reading_networks.ensures c.one_window_cause.ensures.one c.one_window_cause.ensures.none c.a_window_or_a_cause.ensures
