use Rattle.std.proofs.Common.{◌≡◌, ◌+◌, ◌-◌, ◌<◌, Bool, ◌≤◌, true, false, length, reverse, refl, ap, ◌∙◌, sym, subst, arith}
use Rattle.std.specs.Prelude.{◌||◌}
use Rattle.circuit.specs.Meaning.{upto, HasLevels}
use Rattle.event_sim.specs.Passes.{IsPass}
use Rattle.event_sim.specs.Orders.{begins, numbered_order}
use Rattle.event_sim.proofs.Numbering.{begins_within}
use Rattle.event_sim.proofs.Rounds.{some_assign}
use Rattle.event_sim.proofs.Skipping.{passed_up, fits, or_first, or_second}
use Rattle.event_sim.proofs.passes.pass.Goals as goal

pub begins-begin-requires : goal.begins-begin-requires
begins-begin-requires c = omega (arith, ap (λ z. length z) c.assigns-count.ensures, some_assign c.args.m.now c.rules.ensures)

pub rise-high-requires-clause-start : goal.rise-high-requires-clause-start
rise-high-requires-clause-start c =
    let n = length c.assigns-count.result.now in
    omega (arith, c.begins-begin.ensures, begins_within n c.args.order (omega (arith, ap (λ z. length z) c.assigns-count.ensures, some_assign c.args.m.now c.rules.ensures)))

pub rise-low-requires-clause-end : goal.rise-low-requires-clause-end
rise-low-requires-clause-end c =
    let n = length c.assigns-count.result.now in
    let e = ap (λ z. length z) c.assigns-count.ensures in
    omega (arith, e, c.begins-begin.ensures, begins_within n c.args.order (omega (arith, e, some_assign c.args.m.now c.rules.ensures)))

pub rise-low-requires-clause-levels : goal.rise-low-requires-clause-levels
rise-low-requires-clause-levels c = fits c.args.m.now _ c.args.levels.now c.rise-high.new.levels c.rise-high.result c.rise-high.ensures.pass c.requires.levels

pub returns-then-high-clause-pass : goal.returns-then-high-clause-pass
returns-then-high-clause-pass c =
    let m = c.args.m.now in
    let n = length c.assigns-count.result.now in
    let e : n ≡ length m.assigns = ap (λ z. length z) c.assigns-count.ensures in
    subst (λ z. IsPass m (numbered_order z c.args.order) c.args.levels.now c.rise-low.new.levels c.rise-high.result) e
    (subst (λ z. IsPass m (numbered_order n c.args.order) c.args.levels.now c.rise-low.new.levels z)
    (or_first c.rise-high.result c.rise-low.result c.rise-high.result c.if-high.true refl)
    (passed_up m n c.args.order c.begins-begin.result c.args.levels.now c.rise-high.new.levels c.rise-low.new.levels c.rise-high.result c.rise-low.result
    c.if-order-eq1.false c.begins-begin.ensures c.rise-high.ensures.pass c.rise-low.ensures.pass))

pub returns-else-high-clause-pass : goal.returns-else-high-clause-pass
returns-else-high-clause-pass c =
    let m = c.args.m.now in
    let n = length c.assigns-count.result.now in
    let e : n ≡ length m.assigns = ap (λ z. length z) c.assigns-count.ensures in
    subst (λ z. IsPass m (numbered_order z c.args.order) c.args.levels.now c.rise-low.new.levels c.rise-low.result) e
    (subst (λ z. IsPass m (numbered_order n c.args.order) c.args.levels.now c.rise-low.new.levels z)
    (or_second c.rise-high.result c.rise-low.result c.rise-low.result c.if-high.false refl)
    (passed_up m n c.args.order c.begins-begin.result c.args.levels.now c.rise-high.new.levels c.rise-low.new.levels c.rise-high.result c.rise-low.result
    c.if-order-eq1.false c.begins-begin.ensures c.rise-high.ensures.pass c.rise-low.ensures.pass))
