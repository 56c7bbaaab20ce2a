use Rattle.std.proofs.Common.{◌<◌, ◌≤◌, ◌+◌, sym, subst, arith, vec_len, vec_capacity, length}
use Rattle.levels.proofs.Grown.{row_waits, grown_on, all_grown}
use Rattle.levels.proofs.digits.push_digits.Goals as goal

pub push_times-requires : goal.push_times-requires
push_times-requires c =
    let k = c.loop-out.out in
    let d = c.index-rows-out.result in
    let rows = c.args.rows.now in
    let lt : k < length rows = omega (arith, c.loop-out-test.true, c.requires.one_for_each_output) in
    subst (λ row. vec_len row + c.args.count ≤ vec_capacity row)
    (sym (row_waits (λ row. row.items) (λ row. vec_capacity row) c.args.outs.now c.args.count 0 k rows c.loop-out.rows d c.loop-out.invariant lt))
    (c.requires.room k d lt)

pub loop-out-preserved : goal.loop-out-preserved
loop-out-preserved c =
    let k = c.loop-out.out in
    let d = c.index-rows-out.result in
    let p = c.push_times.ensures in
    grown_on (λ row. row.items) (λ row. vec_capacity row) c.args.outs.now c.args.count k c.args.rows.now c.loop-out.rows c.push_times.new.row d
    c.loop-out.invariant (omega (arith, c.loop-out-test.true, c.requires.one_for_each_output))
    (rw (sym c.digit.ensures) p.digits) p.capacity

pub returns-clause-digits : goal.returns-clause-digits
returns-clause-digits c =
    (all_grown (λ row. row.items) (λ row. vec_capacity row) c.args.outs.now c.args.count 0 c.loop-out.out c.args.rows.now c.loop-out.rows
    c.loop-out.invariant (omega (arith, c.loop-out-test.false, c.requires.one_for_each_output))).0

pub returns-clause-capacity : goal.returns-clause-capacity
returns-clause-capacity c =
    (all_grown (λ row. row.items) (λ row. vec_capacity row) c.args.outs.now c.args.count 0 c.loop-out.out c.args.rows.now c.loop-out.rows
    c.loop-out.invariant (omega (arith, c.loop-out-test.false, c.requires.one_for_each_output))).1
