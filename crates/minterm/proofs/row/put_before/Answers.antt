use Rattle.minterm.proofs.Rows.{before_others}
use Rattle.minterm.proofs.row.put_before.Goals as goal

pub returns-in-len1-up-clause-planted : goal.returns-in-len1-up-clause-planted
returns-in-len1-up-clause-planted c =
    before_others c.planting_laws.ensures _ _ _ c.args.term c.args.others.now _ c.put_joined-other.result c.put.result c.requires.nodes c.requires.term c.in-len1-up.len_at_least c.put_joined-other.ensures.planted c.put.ensures.planted
