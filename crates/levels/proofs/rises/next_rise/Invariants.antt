use Rattle.std.proofs.Common.{◌≤◌}
use Rattle.levels.proofs.Stretches.{AreCalm}
use Rattle.levels.proofs.rises.next_rise.Given as goal

abbrev pub invariant-loop-rise : goal.invariant-loop-rise
invariant-loop-rise l = record {
  calm : AreCalm l.rises l.cycle l.next l.rise-index;
  within : l.next ≤ l.cycles;
}
