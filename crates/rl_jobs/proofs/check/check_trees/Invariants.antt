use Rattle.rl_jobs.proofs.Checking.{HaveAccepted}
use Rattle.rl_jobs.proofs.check.check_trees.Given as goal

abbrev pub invariant-loop-place : goal.invariant-loop-place
invariant-loop-place l = HaveAccepted ((l.first, l.second), l.trees) l.place l.text.items
