use Rattle.std.proofs.Common.{◌∙◌, ap, subst, sym, arith, ◌+◌, ◌++◌, ◌∷◌, []}
use Rattle.simplify.specs.Passing.{AreSimplified}
use Rattle.simplify.proofs.Passed.{marked_grown, prefix_trans, planted_more, room_more}
use Rattle.simplify.proofs.simplifying.simplify_marked.Goals as goal

pub loop-place-preserved : goal.loop-place-preserved
loop-place-preserved c =
    let before = c.loop-place.invariant in
    let step = c.simplify_place-to.ensures in
    let marks = c.args.marks.now in
    let new = c.simplify_place-to.new.store in
    record {
      nodes = step.nodes;
      grown = prefix_trans _ _ _ before.grown step.grown;
      marked = marked_grown _ _ marks step.grown before.marked;
      planted = planted_more c.args.store.now.nodes c.loop-place.store.nodes new.nodes marks c.loop-place.place (omega (arith, c.loop-place-test.true, c.requires.marked.len)) before.grown before.planted step.planted step.passed_over;
      simplified = subst (AreSimplified new.nodes marks (c.loop-place.place + 1)) (sym (c.push_reserved.ensures.items ∙ ap (λ xs. xs ++ c.simplify_place-to.result ∷ []) (sym c.deref.ensures.value))) step.after;
      room = room_more _ _ _ c.loop-place.place before.room step.room;
      capacity = omega (arith, c.push_reserved.ensures.capacity, before.capacity);
      ends = step.ends;
      all = step.all;
      ends_capacity = omega (arith, step.capacity, before.ends_capacity);
    }
