use Rattle.std.proofs.Common.{◌≡◌, length}
use Rattle.std.specs.List.{All}
use Rattle.case_split.specs.Verdicts.{IsSmallNumber}
use Rattle.case_split.proofs.tying.tie_some.Given as goal

abbrev pub invariant-loop-tie : goal.invariant-loop-tie
invariant-loop-tie l = record {
  small : All IsSmallNumber l.times;
  long : length l.times ≡ length l.fn.times;
}
