use Rattle.std.proofs.Common.{arith}
use Rattle.marked_steps.proofs.Filling.{none_known}
use Rattle.marked_steps.proofs.edge.edge_plainly.Goals as goal

pub returns-clause-up_to_date : goal.returns-clause-up_to_date
returns-clause-up_to_date c =
    none_known c.args.m.now c.clock_edge.new.levels c.fill_from.new.self
    (λ k lt. c.fill_from.ensures.above k (omega arith) (omega (arith, lt, c.fill_from.ensures.room))) (omega (arith, c.fill_from.ensures.room, c.requires.room))
