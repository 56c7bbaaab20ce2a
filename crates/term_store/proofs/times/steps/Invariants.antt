use Rattle.term_store.proofs.Numbers.{AreFirstSteps}
use Rattle.term_store.proofs.times.steps.Given as goal

abbrev pub invariant-loop-place : goal.invariant-loop-place
invariant-loop-place l = AreFirstSteps l.steps.items l.store.nodes l.place
