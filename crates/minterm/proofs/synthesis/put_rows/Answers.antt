use Rattle.std.proofs.Common.{◌+◌, ◌*◌, ap, arith, subst, sym, ◌∙◌}
use Rattle.std.proofs.lemmas.List.Elements.{All-get_or, All-from_recursion}
use Rattle.func_table.specs.Sound.{IsInOrder}
use Rattle.minterm.proofs.Rooms.{room_then}
use Rattle.minterm.proofs.Rows.{same_inputs, row_more}
use Rattle.minterm.proofs.synthesis.put_rows.Goals as goal

pub put_row-place-requires-clause-inputs : goal.put_row-place-requires-clause-inputs
put_row-place-requires-clause-inputs c = same_inputs c.planting_laws.ensures _ _ c.args.inputs.now c.loop-row.invariant.planted.grown c.requires.inputs

pub put_row-place-requires-clause-ordered : goal.put_row-place-requires-clause-ordered
put_row-place-requires-clause-ordered c =
    subst IsInOrder (sym c.row-item.is) (All-get_or IsInOrder c.args.rows.now c.loop-row.row-index c.row-item.result c.loop-row-test.true (All-from_recursion IsInOrder c.args.rows.now c.requires.ordered))

pub loop-row-preserved : goal.loop-row-preserved
loop-row-preserved c =
    let before = c.loop-row.invariant in
    let p = c.push_reserved.ensures in
    let q = c.put_row-place.ensures in
    record {
      planted =
          row_more c.planting_laws.ensures _ _ _ c.args.rows.now c.loop-row.row-index c.row-item.result c.loop-row.minterms.items _ c.put_row-place.result c.loop-row-test.true c.row-item.is p.items before.planted q.grown q.planted;
      len = p.len ∙ ap (λ k. k + 1) before.len;
      numbers = q.numbers ∙ before.numbers;
      dashes = q.dashes ∙ before.dashes;
      minterms = p.capacity ∙ before.minterms;
      room = room_then _ _ _ (48 * c.loop-row.row-index) 48 _ (omega arith) before.room q.room;
    }
