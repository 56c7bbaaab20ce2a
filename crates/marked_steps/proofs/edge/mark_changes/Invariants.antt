use Rattle.std.proofs.Common.{◌+◌, ◌-◌, [], length, get_or}
use Rattle.std.specs.Prelude.{◌⊎◌}
use Rattle.levels.specs.Marked.{HasMore, IsMarked}
use Rattle.marked_steps.specs.Shifts.{AreSeen, StaysSame}
use Rattle.marked_steps.proofs.edge.mark_changes.Given as goal

abbrev pub invariant-loop-k : goal.invariant-loop-k
invariant-loop-k l = record {
  more : HasMore l.fn.marks l.marks;
  seen : AreSeen l.m l.readers.starts.items l.readers.lists l.marks l.reg l.first (get_or l.levels.regs l.reg []) l.k;
  quiet : IsMarked l.marks (length l.m.assigns + l.reg) ⊎ StaysSame l.first (get_or l.levels.regs l.reg []) l.k;
}

abbrev pub decreases-loop-k : goal.decreases-loop-k
decreases-loop-k l = l.width - l.k
