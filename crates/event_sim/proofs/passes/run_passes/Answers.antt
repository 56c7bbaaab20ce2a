use Rattle.std.proofs.Common.{◌≡◌, ◌+◌, length, sym, ap, ◌∙◌, subst, arith}
use Rattle.event_sim.specs.Orders.{numbered_order}
use Rattle.event_sim.specs.Passes.{ArePasses}
use Rattle.event_sim.proofs.Numbering.{order_long, order_is_round}
use Rattle.event_sim.proofs.Rounds.{Running, running_more, rested, rested_settled, running_quiet, some_assign}
use Rattle.event_sim.proofs.passes.run_passes.Goals as goal

pub overflow_add-activations : goal.overflow_add-activations
overflow_add-activations c =
    omega (arith, c.loop.invariant.running.small, c.few_items.ensures, ap (λ z. length z) c.assigns-count.ensures, c.loop-test.true)

pub returns-then-not-pass-clause-passes : goal.returns-then-not-pass-clause-passes
returns-then-not-pass-clause-passes c =
    let m = c.args.m.now in
    let ks = numbered_order (length m.assigns) c.args.order in
    let n : length c.assigns-count.result.now ≡ length m.assigns = ap (λ z. length z) c.assigns-count.ensures in
    let long : length ks ≡ length c.assigns-count.result.now = order_long (length m.assigns) c.args.order (some_assign m c.rules.ensures) ∙ sym n in
    subst (λ z. ArePasses m ks c.args.levels.now c.pass.new.levels (c.loop.activations + z)) long
    (rested m ks c.args.levels.now c.loop.levels c.pass.new.levels c.loop.counter c.loop.activations c.loop.invariant.running (omega (arith, n, c.loop-test.true)) c.pass.ensures.pass.state
    (c.pass.ensures.pass.still c.if-not-pass.true))

pub returns-then-not-pass-clause-settled : goal.returns-then-not-pass-clause-settled
returns-then-not-pass-clause-settled c =
    let m = c.args.m.now in
    let ks = numbered_order (length m.assigns) c.args.order in
    rested_settled m c.rules.ensures.ordered ks c.args.levels.now c.loop.levels c.pass.new.levels c.loop.counter c.loop.activations c.loop.invariant.running
    (order_is_round (length m.assigns) c.args.order (some_assign m c.rules.ensures)) c.pass.ensures.pass.state (c.pass.ensures.pass.still c.if-not-pass.true)

pub returns-then-not-pass-clause-few : goal.returns-then-not-pass-clause-few
returns-then-not-pass-clause-few c =
    omega (arith, c.loop.invariant.running.small, c.few_items.ensures, ap (λ z. length z) c.assigns-count.ensures, c.loop-test.true)

pub loop-preserved : goal.loop-preserved
loop-preserved c =
    let m = c.args.m.now in
    let ks = numbered_order (length m.assigns) c.args.order in
    let n : length c.assigns-count.result.now ≡ length m.assigns = ap (λ z. length z) c.assigns-count.ensures in
    let long : length ks ≡ length c.assigns-count.result.now = order_long (length m.assigns) c.args.order (some_assign m c.rules.ensures) ∙ sym n in
    record {
      running = subst (λ z. Running m ks c.args.levels.now c.pass.new.levels (c.loop.counter + 1) (c.loop.activations + z)) long
          (running_more m ks c.args.levels.now c.loop.levels c.pass.new.levels c.loop.counter c.loop.activations c.loop.invariant.running
          (omega (arith, c.few_items.ensures, n, long)) c.pass.ensures.pass.state (c.pass.ensures.pass.moved c.if-not-pass.false));
      up_to_date = c.pass.ensures.up_to_date;
      room = c.pass.ensures.room ∙ c.loop.invariant.room;
    }

pub overflow_add-result : goal.overflow_add-result
overflow_add-result c =
    omega (arith, c.loop.invariant.running.small, c.few_items.ensures, ap (λ z. length z) c.assigns-count.ensures, c.loop.auto.counter-end)

pub returns-clause-passes : goal.returns-clause-passes
returns-clause-passes c =
    let m = c.args.m.now in
    let ks = numbered_order (length m.assigns) c.args.order in
    let some = some_assign m c.rules.ensures in
    let n : length c.assigns-count.result.now ≡ length m.assigns = ap (λ z. length z) c.assigns-count.ensures in
    let long : length ks ≡ length c.assigns-count.result.now = order_long (length m.assigns) c.args.order some ∙ sym n in
    let all : c.loop.counter ≡ length m.assigns = omega (arith, n, c.loop-test.false, c.loop.auto.counter-end) in
    let q = running_quiet m c.rules.ensures.ordered ks c.args.levels.now c.loop.levels c.loop.counter c.loop.activations
    c.loop.invariant.running c.requires.levels (order_is_round (length m.assigns) c.args.order some) all in
    subst (λ z. ArePasses m ks c.args.levels.now c.pass-2.new.levels (c.loop.activations + z)) long
    (rested m ks c.args.levels.now c.loop.levels c.pass-2.new.levels c.loop.counter c.loop.activations c.loop.invariant.running (omega (arith, all)) c.pass-2.ensures.pass.state q)

pub returns-clause-settled : goal.returns-clause-settled
returns-clause-settled c =
    let m = c.args.m.now in
    let ks = numbered_order (length m.assigns) c.args.order in
    let some = some_assign m c.rules.ensures in
    let round = order_is_round (length m.assigns) c.args.order some in
    let n : length c.assigns-count.result.now ≡ length m.assigns = ap (λ z. length z) c.assigns-count.ensures in
    let all : c.loop.counter ≡ length m.assigns = omega (arith, n, c.loop-test.false, c.loop.auto.counter-end) in
    let q = running_quiet m c.rules.ensures.ordered ks c.args.levels.now c.loop.levels c.loop.counter c.loop.activations c.loop.invariant.running c.requires.levels round all in
    rested_settled m c.rules.ensures.ordered ks c.args.levels.now c.loop.levels c.pass-2.new.levels c.loop.counter c.loop.activations c.loop.invariant.running round c.pass-2.ensures.pass.state q

pub returns-clause-few : goal.returns-clause-few
returns-clause-few c =
    omega (arith, c.loop.invariant.running.small, c.few_items.ensures, ap (λ z. length z) c.assigns-count.ensures, c.loop.auto.counter-end)
