use Rattle.std.proofs.Common.{◌≡◌, ◌+◌, ◌-◌, ◌<◌, Bool, ◌≤◌, true, false, length, reverse, refl, ap, ◌∙◌, sym, subst, arith}
use Rattle.std.specs.Prelude.{◌||◌}
use Rattle.circuit.specs.Meaning.{upto, HasLevels}
use Rattle.event_sim.specs.Passes.{IsPass}
use Rattle.event_sim.proofs.Skipping.{resting_up, rises, fits, or_first, or_second}
use Rattle.event_sim.proofs.stretches.rise_marked.Goals as goal
use Rattle.event_sim.proofs.stretches.rise_marked.Goals.{then-changed, else-changed}

pub loop-next-init : goal.loop-next-init
loop-next-init c = record {
  low = c.next_marked-next.ensures.low;
  high = c.next_marked-next.ensures.high;
  pass = resting_up c.args.m.now c.args.levels.now c.args.marks.now c.args.from c.next_marked-next.result c.requires.up_to_date c.next_marked-next.ensures.none;
  levels = c.requires.levels;
  up_to_date = c.requires.up_to_date;
  room = refl;
}

pub loop-next-preserved : goal.loop-next-preserved
loop-next-preserved c =
    let m = c.args.m.now in
    let i = c.loop-next.invariant in
    let a = c.activate-now.ensures in
    let s' = c.activate-now.new.levels in
    let next' = c.next_marked-next-in-loop-next.result in
    let n = c.next_marked-next-in-loop-next.ensures in
    let e : (c.loop-next.changed || c.activate-now.result) ≡ c.if-changed.changed = elim c.if-changed.branch [
      | then-changed w ↦ or_first c.loop-next.changed c.activate-now.result c.if-changed.changed w.if-changed.true w.changed-is
      | else-changed w ↦ or_second c.loop-next.changed c.activate-now.result c.if-changed.changed w.if-changed.false w.changed-is
    ] in
    record {
      low = omega (arith, i.low, n.low);
      high = n.high;
      pass = subst (λ z. IsPass m (upto c.args.from (next' - c.args.from)) c.args.levels.now s' z) e
          (rises m c.args.levels.now c.loop-next.levels s' c.activate-now.new.marks c.args.from c.loop-next.next next' c.loop-next.changed c.activate-now.result
          i.pass i.low n.low a.state (λ h. a.same h) (λ h. a.changed h) a.up_to_date n.none);
      levels = a.levels;
      up_to_date = a.up_to_date;
      room = a.room ∙ i.room;
    }
