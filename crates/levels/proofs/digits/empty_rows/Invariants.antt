use Rattle.std.proofs.Common.{◌≡◌, [], map, replicate, vec_capacity}
use Rattle.levels.proofs.digits.empty_rows.Given as goal

abbrev pub invariant-loop : goal.invariant-loop
invariant-loop l = record {
  empty : map (λ row. row.items) l.rows.items ≡ replicate l.counter [];
  capacity : map (λ row. vec_capacity row) l.rows.items ≡ replicate l.counter l.cycles;
}
