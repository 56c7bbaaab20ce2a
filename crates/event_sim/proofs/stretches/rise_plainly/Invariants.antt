use Rattle.std.proofs.Common.{◌-◌}
use Rattle.circuit.specs.Meaning.{HasLevels, upto}
use Rattle.event_sim.specs.Passes.{IsPass}
use Rattle.event_sim.proofs.stretches.rise_plainly.Given as goal

abbrev pub invariant-loop-k : goal.invariant-loop-k
invariant-loop-k l = record {
  pass : IsPass l.m (upto l.from (l.k - l.from)) l.fn.levels l.levels l.changed;
  levels : HasLevels l.m l.levels;
}
