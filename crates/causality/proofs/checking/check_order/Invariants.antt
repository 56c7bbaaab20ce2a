use Rattle.std.proofs.Common.{◌≡◌, take}
use Rattle.std.specs.List.{AllByRecursion}
use Rattle.func_table.specs.Sound.{IsInOrder}
use Rattle.causality.proofs.checking.check_order.Given as goal

abbrev pub invariant-loop-row : goal.invariant-loop-row
invariant-loop-row l = record {
  count : l.number ≡ l.row-index;
  in_order : AllByRecursion IsInOrder (take l.row-index l.t.rows);
}
