use Rattle.std.proofs.Common.{◌≡◌}
use Rattle.case_split.proofs.drawing.difference_below.Given as goal

abbrev pub invariant-loop-list : goal.invariant-loop-list
invariant-loop-list l = l.pair ≡ l.fn.pair
