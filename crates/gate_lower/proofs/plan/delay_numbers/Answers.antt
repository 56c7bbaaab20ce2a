use Rattle.std.proofs.Common.{arith}
use Rattle.gate_lower.specs.Planned.{is_positive}
use Rattle.gate_lower.proofs.Places.{one_more, none_more, is_less, is_no_less, count_le}
use Rattle.gate_lower.proofs.Plans.{next_numbers}
use Rattle.gate_lower.proofs.plan.delay_numbers.Goals as goal
use Rattle.gate_lower.proofs.plan.delay_numbers.Goals.{then-delay-gt0, else-delay-gt0}

pub overflow_add-count : goal.overflow_add-count
overflow_add-count c =
    omega (arith, c.loop-delay.invariant.1, count_le (is_positive c.args.longest.now) c.loop-delay.delay-index, c.loop-delay-test.true, c.requires.few)

pub loop-delay-preserved : goal.loop-delay-preserved
loop-delay-preserved c =
    let test = is_positive c.args.longest.now in
    let i = c.loop-delay.invariant in
    elim c.if-delay-gt0.branch [
      | then-delay-gt0 w ↦
          next_numbers test c.loop-delay.delay-index _ _ _ _ i.0 i.1 c.in_ok-push.ensures.items (one_more _ _ _ w.count-is (is_less 0 _ w.if-delay-gt0.true))
      | else-delay-gt0 w ↦
          next_numbers test c.loop-delay.delay-index _ _ _ _ i.0 i.1 c.in_ok-push.ensures.items (none_more _ _ _ w.count-is (is_no_less 0 _ (λ lt. omega (arith, lt, w.if-delay-gt0.false))))
    ]
