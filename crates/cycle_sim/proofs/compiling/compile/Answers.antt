use Rattle.std.proofs.Common.{◌≡◌, ◌∙◌, refl, ap, subst, length, arith, Some}
use Rattle.std.specs.Prelude.{slice_get}
use Rattle.std.proofs.lemmas.Option.{slice_get_read}
use Rattle.circuit.specs.Circuit.{Assignment}
use Rattle.cycle_sim.specs.Operations.{IsPlanOfFirst}
use Rattle.cycle_sim.proofs.Compiled.{fits, placed, first_more, in_range_at}
use Rattle.cycle_sim.proofs.compiling.compile.Goals as goal

pub add-requires-clause-target : goal.add-requires-clause-target
add-requires-clause-target c =
    let m = c.args.m.now in
    let k = c.loop-assign.assign-index in
    let a : Assignment = c.assign-item.result in
    let there : slice_get m.assigns k ≡ Some a = rw (← c.assigns-assign-items.ensures) (slice_get_read c.assigns-assign-items.result.now _ k a refl c.loop-assign-test.true c.assign-item.is) in
    placed m c.loop-assign.program.places a.target c.loop-assign.invariant.places (c.rules.ensures.ordered.targets k a there)

pub add-requires-clause-fits : goal.add-requires-clause-fits
add-requires-clause-fits c =
    let m = c.args.m.now in
    let k = c.loop-assign.assign-index in
    let a : Assignment = c.assign-item.result in
    let there : slice_get m.assigns k ≡ Some a = rw (← c.assigns-assign-items.ensures) (slice_get_read c.assigns-assign-items.result.now _ k a refl c.loop-assign-test.true c.assign-item.is) in
    fits m c.loop-assign.program.places a.bit c.loop-assign.invariant.places (in_range_at m k a c.rules.ensures.assigned_in_range there)

pub loop-assign-preserved : goal.loop-assign-preserved
loop-assign-preserved c =
    let m = c.args.m.now in
    let k = c.loop-assign.assign-index in
    let a : Assignment = c.assign-item.result in
    let there : slice_get m.assigns k ≡ Some a = rw (← c.assigns-assign-items.ensures) (slice_get_read c.assigns-assign-items.result.now _ k a refl c.loop-assign-test.true c.assign-item.is) in
    first_more m c.loop-assign.program c.add.new.program k a there c.loop-assign.invariant c.in_ok-add.ensures

pub returns : goal.returns
returns c =
    let m = c.args.m.now in
    let all : c.loop-assign.assign-index ≡ length m.assigns =
    let e : c.loop-assign.assign-index ≡ length c.assigns-assign-items.result.now = omega arith in
    e ∙ ap (λ z. length z) c.assigns-assign-items.ensures in
    subst (λ n. IsPlanOfFirst m n c.loop-assign.program) all c.loop-assign.invariant
