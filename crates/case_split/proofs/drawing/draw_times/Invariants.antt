use Rattle.std.proofs.Common.{◌≡◌, length}
use Rattle.std.specs.List.{All}
use Rattle.case_split.specs.Verdicts.{IsSmallNumber}
use Rattle.case_split.proofs.drawing.draw_times.Given as goal

abbrev pub invariant-loop-input : goal.invariant-loop-input
invariant-loop-input l = record {
  long : length l.times.items ≡ l._input;
  small : All IsSmallNumber l.times.items;
}
