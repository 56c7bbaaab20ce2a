use Rattle.std.proofs.Common.{◌<◌, ◌*◌, ap, arith, subst, sym, ◌∙◌, length}
use Rattle.term_store.specs.declared.node.Term.{Term}
use Rattle.std.specs.List.{All}
use Rattle.term_store.specs.Trees.{tree, trees_at}
use Rattle.term_store.specs.Planting.{IsPlanted}
use Rattle.minterm.specs.Minterms.{together, before_all}
use Rattle.minterm.specs.Steps.{dash_places}
use Rattle.minterm.proofs.Entries.{some_number, dashes_within}
use Rattle.minterm.proofs.Planted.{prefix_then, all_within_more}
use Rattle.minterm.proofs.Rooms.{room_after, room_then}
use Rattle.minterm.proofs.Rows.{how_many, row_size, whole_row}
use Rattle.minterm.proofs.row.put_row.Goals as goal

pub put_together-together-requires-clause-some : goal.put_together-together-requires-clause-some
put_together-together-requires-clause-some c =
    omega (
      arith,
      ap length c.deref.ensures.value,
      how_many c.put_numbers.new.store.nodes c.put_numbers.new.numbers.items _ c.put_numbers.ensures.planted.trees_are,
      some_number c.args.row.now.out 0 c.args.row.now.entries c.requires.ordered.some_zero,
    )

pub put_together-together-requires-clause-room : goal.put_together-together-requires-clause-room
put_together-together-requires-clause-room c =
    let noted = c.note_dashes.ensures.dashes ∙ ap (dash_places c.args.inputs.now) c.entries.ensures in
    let size = row_size c.put_numbers.new.store.nodes c.args.row.now c.args.inputs.now c.put_numbers.new.numbers.items _ c.requires.few c.requires.one_for_each_input c.put_numbers.ensures.planted.trees_are noted in
    room_after _ _ (length c.put_numbers.new.numbers.items) (2 * length c.deref.result.now) _ (omega (arith, size, ap length c.deref.ensures.value)) c.requires.room c.put_numbers.ensures.room

pub put_before-requires-clause-others : goal.put_before-requires-clause-others
put_before-requires-clause-others c =
    let noted = c.note_dashes.ensures.dashes ∙ ap (dash_places c.args.inputs.now) c.entries.ensures in
    let grown = prefix_then _ _ _ c.put_numbers.ensures.planted.grown c.put_together-together.ensures.planted.grown in
    subst (All (λ (t : Term). t.0 < length c.put_together-together.new.store.nodes)) (sym (c.deref-2.ensures.value ∙ noted))
    (dashes_within (λ (t : Term). t.0 < length c.put_together-together.new.store.nodes) c.args.inputs.now c.args.row.now.entries (all_within_more _ _ c.args.inputs.now grown c.requires.inputs.within))

pub put_before-requires-clause-room : goal.put_before-requires-clause-room
put_before-requires-clause-room c =
    let noted = c.note_dashes.ensures.dashes ∙ ap (dash_places c.args.inputs.now) c.entries.ensures in
    let size = row_size c.put_numbers.new.store.nodes c.args.row.now c.args.inputs.now c.put_numbers.new.numbers.items _ c.requires.few c.requires.one_for_each_input c.put_numbers.ensures.planted.trees_are noted in
    let numbers = length c.put_numbers.new.numbers.items in
    let taken = room_then _ _ _ numbers (2 * length c.deref.result.now) (3 * numbers) (omega (arith, ap length c.deref.ensures.value)) c.put_numbers.ensures.room c.put_together-together.ensures.room in
    room_after _ _ (3 * numbers) (length c.deref-2.result.now) _ (omega (arith, size, ap length c.deref-2.ensures.value)) c.requires.room taken

pub returns-clause-room : goal.returns-clause-room
returns-clause-room c =
    let noted = c.note_dashes.ensures.dashes ∙ ap (dash_places c.args.inputs.now) c.entries.ensures in
    let size = row_size c.put_numbers.new.store.nodes c.args.row.now c.args.inputs.now c.put_numbers.new.numbers.items _ c.requires.few c.requires.one_for_each_input c.put_numbers.ensures.planted.trees_are noted in
    let numbers = length c.put_numbers.new.numbers.items in
    let taken = room_then _ _ _ numbers (2 * length c.deref.result.now) (3 * numbers) (omega (arith, ap length c.deref.ensures.value)) c.put_numbers.ensures.room c.put_together-together.ensures.room in
    room_then _ _ _ (3 * numbers) (length c.deref-2.result.now) _ (omega (arith, size, ap length c.deref-2.ensures.value)) taken c.put_before.ensures.room

pub returns-clause-planted : goal.returns-clause-planted
returns-clause-planted c =
    let noted = c.note_dashes.ensures.dashes ∙ ap (dash_places c.args.inputs.now) c.entries.ensures in
    let b = c.put_numbers.new.store.nodes in
    let m = c.put_together-together.new.store.nodes in
    let last = c.put_before.new.store.nodes in
    let x = c.put_together-together.result in
    whole_row c.planting_laws.ensures _ b m last c.args.row.now c.args.inputs.now c.put_numbers.new.numbers.items c.note_dashes.new.dashes.items x c.put_before.result c.requires.one_for_each_input c.requires.inputs noted
    c.put_numbers.ensures.planted (subst (λ ts. IsPlanted b m (together (trees_at b ts)) x) c.deref.ensures.value c.put_together-together.ensures.planted)
    (subst (λ ts. IsPlanted m last (before_all (tree m x.0) (trees_at m ts)) c.put_before.result) c.deref-2.ensures.value c.put_before.ensures.planted)
