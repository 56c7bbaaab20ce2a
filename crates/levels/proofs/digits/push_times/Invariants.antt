use Rattle.std.proofs.Common.{◌≡◌, ◌++◌, replicate, vec_capacity}
use Rattle.levels.proofs.digits.push_times.Given as goal

abbrev pub invariant-loop : goal.invariant-loop
invariant-loop l = record {
  items : l.row.items ≡ l.fn.row.items ++ replicate l.counter l.digit;
  capacity : vec_capacity l.row ≡ vec_capacity l.fn.row;
}
