use Rattle.std.proofs.Common.{vec_capacity}
use Rattle.levels.proofs.Grown.{HaveGrown}
use Rattle.levels.proofs.digits.push_digits.Given as goal

abbrev pub invariant-loop-out : goal.invariant-loop-out
invariant-loop-out l = HaveGrown (λ row. row.items) (λ row. vec_capacity row) l.outs l.count 0 l.out l.fn.rows l.rows
