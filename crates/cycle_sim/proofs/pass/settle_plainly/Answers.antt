use Rattle.std.proofs.Common.{length, ap, arith}
use Rattle.marked_steps.proofs.Filling.{all_up}
use Rattle.cycle_sim.proofs.pass.settle_plainly.Goals as goal

pub returns-clause-up_to_date : goal.returns-clause-up_to_date
returns-clause-up_to_date c =
    let n = ap (λ z. length z) c.assigns.ensures in
    all_up c.args.m.now c.settle_all-changed.new.levels c.fill_from.new.self c.settle_all-changed.ensures.settled
    (λ k ge lt. c.fill_from.ensures.above k (omega (arith, n, ge)) (omega (arith, lt, c.fill_from.ensures.room))) (omega (arith, c.fill_from.ensures.room, c.requires.room))
