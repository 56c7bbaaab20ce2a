use Rattle.std.proofs.Common.{◌≡◌, ◌+◌, ◌-◌, ◌<◌, Bool, ◌≤◌, true, false, length, reverse, refl, ap, ◌∙◌, sym, subst, arith}
use Rattle.std.specs.Prelude.{◌||◌}
use Rattle.circuit.specs.Meaning.{upto, HasLevels}
use Rattle.event_sim.specs.Passes.{IsPass}
use Rattle.event_sim.proofs.Skipping.{rises_one, fits, or_first, or_second}
use Rattle.event_sim.proofs.Rounds.{fits_after}
use Rattle.event_sim.proofs.stretches.rise_plainly.Goals as goal
use Rattle.event_sim.proofs.stretches.rise_plainly.Goals.{then-changed, else-changed}

pub loop-k-preserved : goal.loop-k-preserved
loop-k-preserved c =
    let m = c.args.m.now in
    let i = c.loop-k.invariant in
    let a = c.activate_plainly-now.ensures in
    let s' = c.activate_plainly-now.new.levels in
    let k = c.loop-k.k in
    let e : (c.loop-k.changed || c.activate_plainly-now.result) ≡ c.if-changed.changed = elim c.if-changed.branch [
      | then-changed w ↦ or_first c.loop-k.changed c.activate_plainly-now.result c.if-changed.changed w.if-changed.true w.changed-is
      | else-changed w ↦ or_second c.loop-k.changed c.activate_plainly-now.result c.if-changed.changed w.if-changed.false w.changed-is
    ] in
    let p : IsPass m (upto c.args.from (k + 1 - c.args.from)) c.args.levels.now s' c.if-changed.changed =
    subst (λ z. IsPass m (upto c.args.from (k + 1 - c.args.from)) c.args.levels.now s' z) e
    (rises_one m c.args.levels.now c.loop-k.levels s' c.args.from k c.loop-k.changed c.activate_plainly-now.result
    i.pass c.loop-k.auto.k a.state (λ h. a.same h) (λ h. a.changed h)) in
    record {
      pass = p;
      levels = fits m (upto c.args.from (k + 1 - c.args.from)) c.args.levels.now s' c.if-changed.changed p c.requires.levels;
    }
