use Rattle.std.proofs.Common.{◌≡◌, refl, ◌∙◌, subst, Some}
use Rattle.std.specs.Prelude.{slice_get}
use Rattle.std.proofs.lemmas.Option.{slice_get_read}
use Rattle.circuit.specs.Circuit.{Assignment}
use Rattle.levels.specs.Recorded.{IsRecorded}
use Rattle.levels.proofs.Recording.{assigns_on}
use Rattle.levels.proofs.mentions.record_assigns.Goals as goal

pub loop-item-preserved : goal.loop-item-preserved
loop-item-preserved c =
    let m = c.args.m.now in
    let k = c.loop-item.item in
    let a : Assignment = c.assign-item.result in
    let there : slice_get m.assigns k ≡ Some a = rw (← c.assigns-assign-items.ensures) (slice_get_read c.assigns-assign-items.result.now _ k a refl c.loop-item-test.true c.assign-item.is) in
    record {
      count = c.in_ok-record.ensures.kept.count ∙ c.loop-item.invariant.count;
      recorded = assigns_on m c.args.starts.now c.loop-item.tally c.record.new.tally k a c.loop-item.invariant.recorded there
          (subst (λ e. IsRecorded m c.args.starts.now e k c.loop-item.tally c.record.new.tally) c.bit.ensures c.in_ok-record.ensures);
    }
