use Rattle.term_store.proofs.Marks.{AreMarks}
use Rattle.term_store.proofs.reach.reached.Given as goal

abbrev pub invariant-loop-at : goal.invariant-loop-at
invariant-loop-at l = AreMarks l.store.nodes l.roots l.at l.marks.items
