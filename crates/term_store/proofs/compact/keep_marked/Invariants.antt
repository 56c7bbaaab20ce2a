use Rattle.term_store.specs.Compacted.{AreMoved}
use Rattle.term_store.proofs.compact.keep_marked.Given as goal

abbrev pub invariant-loop-place : goal.invariant-loop-place
invariant-loop-place l = AreMoved l.store.nodes l.marks l.place l.kept l.moved.items
