use Rattle.std.proofs.Common.{◌<◌, length}
use Rattle.case_split.proofs.tying.way_down.Given as goal

abbrev pub invariant-loop-next : goal.invariant-loop-next
invariant-loop-next l = l.at.0 < length l.store.nodes

abbrev pub decreases-loop-next : goal.decreases-loop-next
decreases-loop-next l = l.at.0
