use Rattle.case_split.proofs.Leading.{one_open_more}
use Rattle.case_split.proofs.walk.left_open.Goals as goal

pub loop-done-preserved : goal.loop-done-preserved
loop-done-preserved c = one_open_more _ _ _ _ c.in_ok-push.ensures c.loop-done.invariant
