use Rattle.std.proofs.Common.{◌≡◌, take, length}
use Rattle.levels.specs.Marked.{HasMore}
use Rattle.marked_steps.specs.UpToDate.{IsSeen}
use Rattle.marked_steps.proofs.inputs.set_inputs.Given as goal

abbrev pub invariant-loop-place : goal.invariant-loop-place
invariant-loop-place l = record {
  more : HasMore l.fn.marks l.marks;
  seen : IsSeen l.m l.fn.levels l.levels l.marks;
  count : length l.levels.inputs ≡ length l.inputs;
  inputs : take l.place l.levels.inputs ≡ take l.place l.inputs;
  regs : l.levels.regs ≡ l.fn.levels.regs;
  wires : l.levels.wires ≡ l.fn.levels.wires;
  outs : l.levels.outs ≡ l.fn.levels.outs;
}
