use Rattle.std.proofs.Common.{[], vec_capacity}
use Rattle.levels.proofs.Grown.{one_more_row}
use Rattle.levels.proofs.digits.empty_rows.Goals as goal

pub loop-preserved : goal.loop-preserved
loop-preserved c =
    let rows = c.loop.rows.items in
    let row = c.in_ok-with_capacity.field-0 in
    let before = c.loop.invariant in
    rw c.in_ok-push.ensures.items (record {
      empty = one_more_row (λ row. row.items) rows row c.loop.counter [] before.empty c.in_ok-with_capacity.ensures.items;
      capacity = one_more_row (λ row. vec_capacity row) rows row c.loop.counter c.args.cycles before.capacity c.in_ok-with_capacity.ensures.exact;
    })
