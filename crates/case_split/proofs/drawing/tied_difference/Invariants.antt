use Rattle.std.proofs.Common.{◌≡◌, ◌≤◌}
use Rattle.case_split.proofs.drawing.tied_difference.Given as goal

abbrev pub invariant-loop-list : goal.invariant-loop-list
invariant-loop-list l = record {
  some : 1 ≤ l.limit;
  small : l.limit ≤ 1048576;
  pair : l.pair ≡ l.fn.pair;
}
