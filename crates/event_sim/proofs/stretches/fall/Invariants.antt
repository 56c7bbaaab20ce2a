use Rattle.std.proofs.Common.{◌≡◌, ◌-◌, ◌≤◌, length, reverse}
use Rattle.circuit.specs.Meaning.{HasLevels, upto}
use Rattle.marked_steps.specs.UpToDate.{IsUpToDate}
use Rattle.event_sim.specs.Passes.{IsPass}
use Rattle.event_sim.proofs.stretches.fall.Given as goal

abbrev pub invariant-loop-end : goal.invariant-loop-end
invariant-loop-end l = record {
  high : l.end ≤ length l.m.assigns;
  pass : IsPass l.m (reverse (upto l.end (length l.m.assigns - l.end))) l.fn.levels l.levels l.changed;
  levels : HasLevels l.m l.levels;
  up_to_date : IsUpToDate l.m l.levels l.marks;
  room : length l.marks ≡ length l.fn.marks;
}

abbrev pub decreases-loop-end : goal.decreases-loop-end
decreases-loop-end l = l.end
