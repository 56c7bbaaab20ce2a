use Rattle.std.proofs.Common.{◌≡◌, ◌-◌, ◌≤◌, length}
use Rattle.circuit.specs.Meaning.{HasLevels, upto}
use Rattle.marked_steps.specs.UpToDate.{IsUpToDate}
use Rattle.event_sim.specs.Passes.{IsPass}
use Rattle.event_sim.proofs.stretches.rise_marked.Given as goal

abbrev pub invariant-loop-next : goal.invariant-loop-next
invariant-loop-next l = record {
  low : l.from ≤ l.next;
  high : l.next ≤ l.end;
  pass : IsPass l.m (upto l.from (l.next - l.from)) l.fn.levels l.levels l.changed;
  levels : HasLevels l.m l.levels;
  up_to_date : IsUpToDate l.m l.levels l.marks;
  room : length l.marks ≡ length l.fn.marks;
}

abbrev pub decreases-loop-next : goal.decreases-loop-next
decreases-loop-next l = l.end - l.next
