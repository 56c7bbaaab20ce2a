use Rattle.std.proofs.Common.{◌≡◌, ◌-◌, length}
use Rattle.circuit.specs.Meaning.{HasLevels}
use Rattle.levels.specs.Marked.{NoneFrom}
use Rattle.marked_steps.specs.UpToDate.{IsUpToDate}
use Rattle.cycle_sim.proofs.settle.settle_marked.Given as goal

abbrev pub invariant-loop-k : goal.invariant-loop-k
invariant-loop-k l = record {
  up_to_date : IsUpToDate l.m l.levels l.marks;
  levels : HasLevels l.m l.levels;
  inputs : l.levels.inputs ≡ l.fn.levels.inputs;
  regs : l.levels.regs ≡ l.fn.levels.regs;
  room : length l.marks ≡ length l.fn.marks;
  none : NoneFrom l.marks 0 l.k;
}

abbrev pub decreases-loop-k : goal.decreases-loop-k
decreases-loop-k l = l.count - l.k
