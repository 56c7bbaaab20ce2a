use Rattle.std.proofs.Common.{◌-◌, ◌<◌, ap, arith, subst, sym, ◌∙◌, length, get_or, None}
use Rattle.term_store.specs.Planting.{ArePlanted}
use Rattle.minterm.proofs.Entries.{no_number, one_longer}
use Rattle.minterm.proofs.Rooms.{room_then}
use Rattle.minterm.proofs.Rows.{number_more}
use Rattle.minterm.proofs.row.put_numbers.Goals.{in-Some, in_default}
use Rattle.minterm.proofs.row.put_numbers.Goals as goal

pub loop-input-preserved : goal.loop-input-preserved
loop-input-preserved c =
    let before = c.loop-input.invariant in
    let i = c.loop-input.input in
    let row = c.args.row.now in
    let same = c.entries-entry-items.ensures in
    let within : i < length row.entries = omega (arith, ap length same, c.loop-input-test.true) in
    elim c.match-entry.branch [
      | in-Some w ↦
          let p = w.push_reserved.ensures in
          let q = w.put_delayed-place.ensures in
          let len = one_longer c.loop-input.numbers.items _ _ _ _ p.items p.len before.len in
          rw (w.store-is, w.numbers-is) (record {
            planted =
                number_more c.planting_laws.ensures _ _ _ row.out row.entries i w.in-Some.cycles w.from.result None c.args.inputs.now c.loop-input.numbers.items _ _ w.put_delayed-place.result within
                (ap (λ es. get_or es i None) (sym same) ∙ w.in-Some.is) (w.from.ensures ∙ ap (λ y. y - w.in-Some.cycles) w.out.ensures) c.requires.one_for_each_input c.requires.inputs p.items before.planted q.planted;
            len = len;
            few = omega (arith, len, p.len, before.len, before.few);
            capacity = p.capacity ∙ before.capacity;
            room = room_then _ _ _ (length c.loop-input.numbers.items) 1 _ (omega (arith, len, p.len, before.len)) before.room q.room;
          })
      | in_default w ↦
          rw (w.store-is, w.numbers-is) (record {
            planted =
                subst (λ ts. ArePlanted c.args.store.now.nodes c.loop-input.store.nodes ts c.loop-input.numbers.items) (sym (no_number row.out row.entries i None within (ap (λ es. get_or es i None) (sym same) ∙ w.in_default.is)))
                before.planted;
            len = before.len;
            few = omega (arith, before.few);
            capacity = before.capacity;
            room = before.room;
          })
    ]
