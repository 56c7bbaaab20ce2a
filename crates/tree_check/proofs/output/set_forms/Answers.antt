use Rattle.std.proofs.Common.{rules, ◌≡◌, refl, ◌∙◌, arith, add-one, slice_index_or, subst, List, [], ℕ, take}
use Rattle.std.proofs.lemmas.Grind.{common_steps}
use Rattle.std.proofs.lemmas.List.{length-set}
use Rattle.tree_check.specs.Bounds.{known}
use Rattle.tree_check.proofs.Setting.{AreSet, in-order-at, place_has_room, place_set}
use Rattle.tree_check.proofs.output.set_forms.Goals as goal

pub bounds-lets-place : goal.bounds-lets-place
bounds-lets-place c = (in-order-at c.args.lets.now c.args.places.now [] c.loop-place.place-index c.requires.in_order c.loop-place-test.true).0

pub offset_bounds-lets-place : goal.offset_bounds-lets-place
offset_bounds-lets-place c =
    let lt = (in-order-at c.args.lets.now c.args.places.now [] c.loop-place.place-index c.requires.in_order c.loop-place-test.true).0 in
    search rules

pub form-next-requires : goal.form-next-requires
form-next-requires c =
    rw (c.deref.ensures.value, c.body.ensures)
    (place_has_room (known c.args.table.now) c.requires.over.0 c.args.lets.now c.args.places.now c.loop-place.forms.items c.loop-place.place-index (slice_index_or c.args.places.now c.loop-place.place-index 0)
    c.index-lets-place.result c.requires.over.1 c.requires.in_order c.loop-place-test.true refl c.index-lets-place.is c.loop-place.invariant.set c.requires.short)

pub index_mut-requires : goal.index_mut-requires
index_mut-requires c =
    let lt = (in-order-at c.args.lets.now c.args.places.now [] c.loop-place.place-index c.requires.in_order c.loop-place-test.true).0 in
    let long = c.loop-place.invariant.long in
    grind (arith, common_steps)

pub loop-place-preserved : goal.loop-place-preserved
loop-place-preserved c =
    rw (add-one, c.form-next.ensures, c.deref.ensures.value, c.body.ensures)
    (record {
      long = length-set c.loop-place.forms.items _ _ ∙ c.loop-place.invariant.long;
      set = place_set (known c.args.table.now) c.requires.over.0 c.args.lets.now c.args.places.now c.loop-place.forms.items c.loop-place.place-index (slice_index_or c.args.places.now c.loop-place.place-index 0)
          c.index-lets-place.result c.requires.over.1 c.requires.in_order c.loop-place-test.true refl c.index-lets-place.is c.loop-place.invariant.set c.loop-place.invariant.long;
    })

pub returns-clause-set : goal.returns-clause-set
returns-clause-set c =
    let e : take c.loop-place.place-index c.args.places.now ≡ c.args.places.now = grind (arith, common_steps) in
    subst (λ (ps : List ℕ). AreSet (known c.args.table.now) c.args.lets.now ps c.loop-place.forms.items) e c.loop-place.invariant.set
