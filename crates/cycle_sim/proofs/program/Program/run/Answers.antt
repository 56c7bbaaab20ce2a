use Rattle.std.proofs.Common.{◌≡◌, ◌<◌, ◌∙◌, ap, sym, subst, length, arith}
use Rattle.std.specs.Prelude.{slice_get}
use Rattle.levels.proofs.Grown.{refilled}
use Rattle.cycle_sim.proofs.Operated.{done_length}
use Rattle.cycle_sim.specs.Operations.{at, plan, all_done, AreLaid, AreTapped, Represents, IsWithin, IsPlan}
use Rattle.cycle_sim.proofs.Ran.{represented, ran}
use Rattle.cycle_sim.proofs.program.Program.run.Goals as goal

pub perform-requires : goal.perform-requires
perform-requires c = λ i o there.
    let s = c.self.inside in
    let v1 = c.load.new.values in
    let v2 = c.load_taps.new.values in
    let n1 : s.values.len ≡ length v1 = omega (arith, s.values.ok.0, c.load.ensures.count, ap (λ z. length z) c.as_mut_slice.ensures.value) in
    let e1 : c.as_mut_slice-2.result.now ≡ v1 = c.as_mut_slice-2.ensures.value ∙ refilled s.values.len s.values.items v1 n1 in
    let n2 : s.values.len ≡ length v2 = omega (arith, n1, c.load_taps.ensures.count, ap (λ z. length z) e1) in
    let e2 : c.as_mut_slice-3.result.now ≡ v2 = c.as_mut_slice-3.ensures.value ∙ refilled s.values.len _ v2 n2 in
    let n : length s.values.items ≡ length c.as_mut_slice-3.result.now = omega (arith, s.values.ok.0, n2, ap (λ z. length z) e2) in
    subst (λ z. (o.to < z) × IsWithin z o.formula) n (c.self.invariant.operations i o (ap (λ z. slice_get z i) (sym c.deref-2.ensures.value) ∙ there))

pub returns-clause-levels : goal.returns-clause-levels
returns-clause-levels c =
    let m = c.args.m.now in
    let s = c.self.inside in
    let old = c.args.levels.now in
    let p = plan s.places s.operations.items s.taps.items s.values.items in
    let v1 = c.load.new.values in
    let v2 = c.load_taps.new.values in
    let v3 = c.perform.new.values in
    let n1 : s.values.len ≡ length v1 = omega (arith, s.values.ok.0, c.load.ensures.count, ap (λ z. length z) c.as_mut_slice.ensures.value) in
    let e1 : c.as_mut_slice-2.result.now ≡ v1 = c.as_mut_slice-2.ensures.value ∙ refilled s.values.len s.values.items v1 n1 in
    let n2 : s.values.len ≡ length v2 = omega (arith, n1, c.load_taps.ensures.count, ap (λ z. length z) e1) in
    let e2 : c.as_mut_slice-3.result.now ≡ v2 = c.as_mut_slice-3.ensures.value ∙ refilled s.values.len _ v2 n2 in
    let done : v3 ≡ all_done v2 s.operations.items = c.perform.ensures ∙ (ap (λ z. all_done z c.deref-2.result.now) e2 ∙ ap (λ z. all_done v2 z) c.deref-2.ensures.value) in
    let n3 : s.values.len ≡ length v3 = omega (arith, n2, done_length v2 s.operations.items, ap (λ z. length z) done) in
    let e3 : c.deref-3.result.now ≡ v3 = c.deref-3.ensures.value ∙ refilled s.values.len _ v3 n3 in
    let tapped : AreTapped s.taps.items old v2 = subst (λ z. AreTapped z old v2) c.deref.ensures.value c.load_taps.ensures.tapped in
    let rep : Represents p old v2 = represented p old v1 v2 c.self.invariant (omega (arith, s.values.ok.0, n2)) c.load.ensures.laid tapped
    (λ q low. c.load_taps.ensures.rest q (λ j t there. low j t (ap (λ z. slice_get z j) (sym c.deref.ensures.value) ∙ there)) ∙ ap (λ z. at z q) e1) in
    ran m p old c.store.new.levels v2 v3 (subst (λ z. IsPlan m z) (sym c.self.view_is) c.requires.plan) rep done
    (λ z laid i r. c.store.ensures z (subst (λ v. AreLaid s.places z v) (sym e3) laid) i r)
