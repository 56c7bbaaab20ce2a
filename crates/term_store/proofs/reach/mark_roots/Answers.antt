use Rattle.term_store.proofs.Marks.{root_more}
use Rattle.term_store.proofs.reach.mark_roots.Goals as goal

pub loop-root-preserved : goal.loop-root-preserved
loop-root-preserved c =
    root_more _ _ _ c.loop-root.root-index _ c.loop-root-test.true (c.requires.roots _ _ c.loop-root-test.true) c.loop-root.invariant
