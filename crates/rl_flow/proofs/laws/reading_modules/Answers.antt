use Rattle.rl_flow.proofs.Judging.{reads_modules}
use Rattle.rl_flow.proofs.laws.reading_modules.Goals as goal

pub returns : goal.returns
returns c = reads_modules c.one_module.ensures c.no_broken_rule.ensures c.one_broken_rule.ensures c.spells_or_breaks.ensures
