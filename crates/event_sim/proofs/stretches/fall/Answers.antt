use Rattle.std.proofs.Common.{◌≡◌, ◌+◌, ◌-◌, ◌<◌, Bool, ◌≤◌, true, false, length, reverse, refl, ap, ◌∙◌, sym, subst, arith}
use Rattle.std.specs.Prelude.{◌||◌}
use Rattle.circuit.specs.Meaning.{upto, HasLevels}
use Rattle.event_sim.specs.Passes.{IsPass}
use Rattle.event_sim.proofs.Skipping.{resting_down, falls, or_first, or_second}
use Rattle.event_sim.proofs.stretches.fall.Goals as goal
use Rattle.event_sim.proofs.stretches.fall.Goals.{then-changed, else-changed}

pub loop-end-init : goal.loop-end-init
loop-end-init c =
    let m = c.args.m.now in
    let n = ap (λ z. length z) c.assigns.ensures in
    record {
      high = omega (arith, n, c.past_last-end.ensures.high);
      pass = resting_down m c.args.levels.now c.args.marks.now c.past_last-end.result (length m.assigns) c.requires.up_to_date
          (λ k ge lt. c.past_last-end.ensures.none k ge (omega (arith, n, lt)));
      levels = c.requires.levels;
      up_to_date = c.requires.up_to_date;
      room = refl;
    }

pub loop-end-preserved : goal.loop-end-preserved
loop-end-preserved c =
    let m = c.args.m.now in
    let i = c.loop-end.invariant in
    let a = c.activate-now.ensures in
    let s' = c.activate-now.new.levels in
    let end = c.loop-end.end in
    let end' = c.past_last-end-in-loop-end.result in
    let n = c.past_last-end-in-loop-end.ensures in
    let e : (c.loop-end.changed || c.activate-now.result) ≡ c.if-changed.changed = elim c.if-changed.branch [
      | then-changed w ↦ or_first c.loop-end.changed c.activate-now.result c.if-changed.changed w.if-changed.true w.changed-is
      | else-changed w ↦ or_second c.loop-end.changed c.activate-now.result c.if-changed.changed w.if-changed.false w.changed-is
    ] in
    record {
      high = omega (arith, i.high, n.high);
      pass = subst (λ z. IsPass m (reverse (upto end' (length m.assigns - end'))) c.args.levels.now s' z) e
          (falls m c.args.levels.now c.loop-end.levels s' c.activate-now.new.marks (length m.assigns) end end' (end - 1) c.loop-end.changed c.activate-now.result
          i.pass i.high (omega (arith, c.loop-end-test.true)) n.high a.state (λ h. a.same h) (λ h. a.changed h) a.up_to_date n.none);
      levels = a.levels;
      up_to_date = a.up_to_date;
      room = a.room ∙ i.room;
    }
