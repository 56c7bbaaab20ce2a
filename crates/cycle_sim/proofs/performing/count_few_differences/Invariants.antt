use Rattle.std.proofs.Common.{◌≤◌, length}
use Rattle.cycle_sim.proofs.performing.count_few_differences.Given as goal

abbrev pub invariant-loop-old : goal.invariant-loop-old
invariant-loop-old l = l.count ≤ length l.yielded
