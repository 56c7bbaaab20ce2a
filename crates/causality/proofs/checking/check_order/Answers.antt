use Rattle.std.proofs.Common.{◌≡◌, ◌+◌, subst, arith, Some, rules}
use Rattle.std.specs.Prelude.{slice_get}
use Rattle.causality.proofs.Faulting.{in_order_more, order_fault, read_place}
use Rattle.causality.proofs.checking.check_order.Goals as goal

pub loop-row-preserved : goal.loop-row-preserved
loop-row-preserved c =
    let i = c.loop-row.row-index in
    let r = c.row-item.result in
    let at : slice_get c.args.t.now.rows i ≡ Some r = subst (λ rows. slice_get rows i ≡ Some r) c.rows-row-items.ensures (read_place c.rows-row-items.result.now i r c.loop-row-test.true c.row-item.is) in
    let n = c.loop-row.invariant.count in
    record { count = omega (arith, n); in_order = in_order_more c.args.t.now.rows i r at c.loop-row.invariant.in_order c.in_ok-check_row.ensures.in_order }

pub returns-in_err-check_row-clause-fault : goal.returns-in_err-check_row-clause-fault
returns-in_err-check_row-clause-fault c =
    let i = c.loop-row.row-index in
    let r = c.row-item.result in
    let at : slice_get c.args.t.now.rows i ≡ Some r = subst (λ rows. slice_get rows i ≡ Some r) c.rows-row-items.ensures (read_place c.rows-row-items.result.now i r c.loop-row-test.true c.row-item.is) in
    let n = c.loop-row.invariant.count in
    let fault = order_fault c.args.t.now.rows i (c.loop-row.number + 1) r c.in_err-check_row.field-0.0 at c.loop-row.invariant.in_order (omega (arith, n)) c.in_err-check_row.ensures.fault in
    search rules
