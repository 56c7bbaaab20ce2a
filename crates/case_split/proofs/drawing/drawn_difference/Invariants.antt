use Rattle.std.proofs.Common.{◌≡◌, ◌+◌, ◌-◌, ◌≤◌}
use Rattle.case_split.proofs.drawing.drawn_difference.Given as goal

abbrev pub invariant-loop-limit : goal.invariant-loop-limit
invariant-loop-limit l = record {
  some : 1 ≤ l.limit;
  pair : l.pair ≡ l.fn.pair;
}

abbrev pub decreases-loop-limit : goal.decreases-loop-limit
decreases-loop-limit l = 1048576 + 1 - l.limit
