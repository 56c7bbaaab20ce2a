use Rattle.std.proofs.Common.{◌≡◌, ◌-◌, ◌<◌, ◌≤◌, ◌*◌, length}
use Rattle.levels.specs.Marked.{NoneFrom, IsMarked}
use Rattle.marked_steps.specs.Shifts.{Edging}
use Rattle.marked_steps.proofs.edge.edge_marked.Given as goal

abbrev pub invariant-loop-reg : goal.invariant-loop-reg
invariant-loop-reg l = record {
  room : length l.marks ≡ length l.fn.marks;
  moving_room : length l.moving ≡ length l.fn.moving;
  none : NoneFrom l.moving 0 l.reg;
  found : l.reg < 64 * length l.moving → IsMarked l.moving l.reg;
  changed : l.changed ≤ l.reg;
  still : l.changed ≡ 0 → l.levels ≡ l.fn.levels;
  edging : Edging l.m l.fn.levels l.levels l.fn.marks l.marks l.moving l.firsts;
}

abbrev pub decreases-loop-reg : goal.decreases-loop-reg
decreases-loop-reg l = l.count - l.reg
