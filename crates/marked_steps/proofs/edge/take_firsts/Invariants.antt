use Rattle.std.proofs.Common.{◌≡◌, ◌-◌, ◌≤◌, length}
use Rattle.marked_steps.specs.Shifts.{Taking}
use Rattle.marked_steps.proofs.edge.take_firsts.Given as goal

abbrev pub invariant-loop-k : goal.invariant-loop-k
invariant-loop-k l = record {
  low : length l.m.assigns ≤ l.k;
  room : length l.marks ≡ length l.fn.marks;
  moving_room : length l.moving ≡ length l.fn.moving;
  taking : Taking l.m l.levels l.fn.marks l.marks l.moving l.firsts l.k;
}

abbrev pub decreases-loop-k : goal.decreases-loop-k
decreases-loop-k l = l.end - l.k
