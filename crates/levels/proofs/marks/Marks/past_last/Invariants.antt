use Rattle.std.proofs.Common.{◌≤◌}
use Rattle.levels.specs.Marked.{NoneFrom}
use Rattle.levels.proofs.marks.Marks.past_last.Given as goal

abbrev pub invariant-loop-k : goal.invariant-loop-k
invariant-loop-k l = record {
  within : l.k ≤ l.end;
  none : NoneFrom l.self l.k l.end;
}

abbrev pub decreases-loop-k : goal.decreases-loop-k
decreases-loop-k l = l.k
