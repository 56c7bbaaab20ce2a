use Rattle.std.proofs.Common.{arith}
use Rattle.minterm.proofs.Rows.{alone, more_together}
use Rattle.minterm.proofs.row.put_together.Goals as goal

pub returns-in-len1-clause-planted : goal.returns-in-len1-clause-planted
returns-in-len1-clause-planted c = alone c.planting_laws.ensures _ c.args.terms.now _ c.requires.nodes c.requires.within c.in-len1.len_at_least c.in-len1.len_below

pub returns-in-len1-up-clause-planted : goal.returns-in-len1-up-clause-planted
returns-in-len1-up-clause-planted c =
    more_together c.planting_laws.ensures _ _ _ _ _ c.args.terms.now _ c.put_joined-latest.result c.put_joined-earliest.result c.put-after.result c.put.result c.requires.within (omega arith)
    c.put_joined-latest.ensures.planted c.put_joined-earliest.ensures.planted c.put-after.ensures.planted c.put.ensures.planted
