use Rattle.std.proofs.Common.{◌∙◌, ap, sym, subst, arith, length, ◌∷◌, []}
use Rattle.std.proofs.Common.{length-append}
use Rattle.simplify.specs.Past.{AreEnds}
use Rattle.simplify.proofs.Noted.{next_noted}
use Rattle.simplify.proofs.chains.note_ends.Goals as goal

pub loop-place-preserved : goal.loop-place-preserved
loop-place-preserved c =
    let ns = c.args.store.now.nodes in
    let before = c.loop-place.invariant in
    let next = c.ends_of-next.result in
    let items = c.push_reserved.ensures.items in
    record {
      ends = subst (AreEnds ns) (sym items) (next_noted ns c.loop-place.ends.items c.loop-place.place c.node.result next c.requires.nodes before.ends before.len
          (omega (arith, c.loop-place-test.true, c.len-place-end.ensures.len, c.loop-place.auto.place-end)) c.node.ensures.at c.ends_of-next.ensures);
      len = omega (arith, ap length items, length-append c.loop-place.ends.items (next ∷ []), before.len);
      capacity = c.push_reserved.ensures.capacity ∙ before.capacity;
    }
