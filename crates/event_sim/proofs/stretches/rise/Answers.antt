use Rattle.std.proofs.Common.{◌≡◌, ◌+◌, ◌-◌, ◌<◌, Bool, ◌≤◌, true, false, length, reverse, refl, ap, ◌∙◌, sym, subst, arith}
use Rattle.std.specs.Prelude.{◌||◌}
use Rattle.circuit.specs.Meaning.{upto, HasLevels}
use Rattle.event_sim.specs.Passes.{IsPass}
use Rattle.std.proofs.lemmas.Bool.{eqb-true}
use Rattle.event_sim.proofs.Skipping.{risen, risen_settled, fits, or_first, or_second}
use Rattle.event_sim.proofs.stretches.rise.Goals as goal
use Rattle.event_sim.proofs.stretches.rise.Goals.{then-from-eq0, else-from-eq0}

pub rise_plainly-more-requires-clause-levels : goal.rise_plainly-more-requires-clause-levels
rise_plainly-more-requires-clause-levels c =
    fits c.args.m.now _ c.args.levels.now c.rise_marked-reached.new.levels c.rise_marked-reached.result.changed c.rise_marked-reached.ensures.pass c.requires.levels

pub mark_after-requires-clause-settled : goal.mark_after-requires-clause-settled
mark_after-requires-clause-settled c = λ e.
    let m = c.args.m.now in
    let r = c.rise_marked-reached in
    let p = risen m c.args.from r.result.next c.args.end c.args.levels.now r.new.levels c.rise_plainly-more.new.levels r.result.changed c.rise_plainly-more.result
    r.ensures.low r.ensures.high r.ensures.pass c.rise_plainly-more.ensures in
    elim c.if-from-eq0.branch [
      | then-from-eq0 w ↦
          risen_settled m c.args.from c.args.end c.args.levels.now c.rise_plainly-more.new.levels (r.result.changed || c.rise_plainly-more.result)
          (c.settles_in_order.ensures m c.rules.ensures.ordered) c.requires.levels p w.if-from-eq0.true
          (eqb-true c.args.end (length w.assigns.result.now) (sym w.all-is ∙ e) ∙ ap (λ z. length z) w.assigns.ensures)
      | else-from-eq0 w ↦ let z = eqb-true c.args.from 0 (sym w.all-is ∙ e) in absurd (omega (arith, z, w.if-from-eq0.false))
    ]

pub returns-then-reached-clause-pass : goal.returns-then-reached-clause-pass
returns-then-reached-clause-pass c =
    let m = c.args.m.now in
    let r = c.rise_marked-reached in
    let p = risen m c.args.from r.result.next c.args.end c.args.levels.now r.new.levels c.rise_plainly-more.new.levels r.result.changed c.rise_plainly-more.result
    r.ensures.low r.ensures.high r.ensures.pass c.rise_plainly-more.ensures in
    subst (λ z. IsPass m (upto c.args.from (c.args.end - c.args.from)) c.args.levels.now c.rise_plainly-more.new.levels z)
    (or_first r.result.changed c.rise_plainly-more.result r.result.changed c.if-reached.true refl) p

pub returns-else-reached-clause-pass : goal.returns-else-reached-clause-pass
returns-else-reached-clause-pass c =
    let m = c.args.m.now in
    let r = c.rise_marked-reached in
    let p = risen m c.args.from r.result.next c.args.end c.args.levels.now r.new.levels c.rise_plainly-more.new.levels r.result.changed c.rise_plainly-more.result
    r.ensures.low r.ensures.high r.ensures.pass c.rise_plainly-more.ensures in
    subst (λ z. IsPass m (upto c.args.from (c.args.end - c.args.from)) c.args.levels.now c.rise_plainly-more.new.levels z)
    (or_second r.result.changed c.rise_plainly-more.result c.rise_plainly-more.result c.if-reached.false refl) p
