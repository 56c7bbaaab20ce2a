use Rattle.term_store.proofs.Marks.{AreRootMarks}
use Rattle.term_store.proofs.reach.mark_roots.Given as goal

abbrev pub invariant-loop-root : goal.invariant-loop-root
invariant-loop-root l = AreRootMarks l.len l.roots l.root-index l.marks.items
