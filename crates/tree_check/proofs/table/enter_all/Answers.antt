use Rattle.tree_check.proofs.Cells.{cells-next}
use Rattle.tree_check.proofs.table.enter_all.Goals as goal

pub loop-fact-preserved : goal.loop-fact-preserved
loop-fact-preserved c =
    record {
      cells = c.enter_one.ensures.cells;
      known = cells-next _ _ c.args.stamp c.args.facts.now c.loop-fact.fact-index c.fact-item.result c.loop-fact-test.true c.fact-item.is c.enter_one.ensures.known c.loop-fact.invariant.known;
    }
