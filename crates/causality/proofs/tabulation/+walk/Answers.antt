use Rattle.std.proofs.Common.{arith, rules, ap, ◌∙◌}
use Rattle.causality.specs.Reached.{time_of}
use Rattle.causality.proofs.Walking.{walk_last, walk_step, walk_end, walk_refused, front_stays}
use Rattle.causality.proofs.tabulation.+walk.Goals as goal

pub returns-then-place-list-clause-rows : goal.returns-then-place-list-clause-rows
returns-then-place-list-clause-rows t c =
    walk_last (time_of c.args.output.now) c.args.last c.args.place c.args.list.now c.args.rows.now.items c.visit.new.rows.items c.visit.result (omega arith) c.visit.ensures.rows

pub returns-in_err-walk-clause-rows : goal.returns-in_err-walk-clause-rows
returns-in_err-walk-clause-rows t c =
    let w = c.args.last in
    let first = c.args.list.now in
    let f = time_of c.args.output.now in
    let told = walk_step f (time_of c.loop-step.output) w c.args.place c.loop-step.step first c.loop-step.list c.args.rows.now.items c.loop-step.rows.items c.window_time.result (omega arith) c.loop-step-test.true c.loop-step.invariant.front c.loop-step.invariant.many c.window_time.ensures (ap time_of c.loop-step.invariant.output) c.loop-step.invariant.rows in
    let refused = walk_refused f w c.args.place c.loop-step.step first c.args.rows.now.items c.walk.new.rows.items _ c.in_err-walk.field-0.0 (omega arith) told c.in_err-walk.ensures.rows in
    search rules

pub returns-in_err-walk-clause-front : goal.returns-in_err-walk-clause-front
returns-in_err-walk-clause-front t c =
    front_stays c.args.place c.args.list.now c.loop-step.list c.walk.new.list c.window_time.result c.loop-step.invariant.front c.walk.ensures.front

pub loop-step-preserved : goal.loop-step-preserved
loop-step-preserved t c =
    let w = c.args.last in
    let first = c.args.list.now in
    let f = time_of c.args.output.now in
    let told = walk_step f (time_of c.loop-step.output) w c.args.place c.loop-step.step first c.loop-step.list c.args.rows.now.items c.loop-step.rows.items c.window_time.result (omega arith) c.loop-step-test.true c.loop-step.invariant.front c.loop-step.invariant.many c.window_time.ensures (ap time_of c.loop-step.invariant.output) c.loop-step.invariant.rows in
    record {
      front = front_stays c.args.place first c.loop-step.list c.walk.new.list c.window_time.result c.loop-step.invariant.front c.walk.ensures.front;
      many = search rules;
      output = c.in_ok-walk.ensures.output ∙ c.loop-step.invariant.output;
      rows = told ∙ c.in_ok-walk.ensures.rows;
    }

pub returns-clause-rows : goal.returns-clause-rows
returns-clause-rows t c =
    walk_end (time_of c.args.output.now) c.args.last c.args.place c.loop-step.step c.args.list.now c.args.rows.now.items c.loop-step.rows.items (omega arith) (omega arith) c.loop-step.invariant.rows
