use Rattle.std.proofs.Common.{◌≤◌, ◌-◌, length}
use Rattle.cycle_sim.proofs.performing.count_differences.Given as goal

abbrev pub invariant-loop-from : goal.invariant-loop-from
invariant-loop-from l = (l.count ≤ l.from) × (l.from ≤ length l.first)

abbrev pub decreases-loop-from : goal.decreases-loop-from
decreases-loop-from l = length l.first - l.from
