use Rattle.std.proofs.Common.{ap, arith, sym, ◌∙◌, length}
use Rattle.minterm.proofs.Entries.{dash_noted, no_dash, one_longer, few_first}
use Rattle.minterm.proofs.row.note_dashes.Goals.{then-is_none, else-is_none}
use Rattle.minterm.proofs.row.note_dashes.Goals as goal

pub push_reserved-requires : goal.push_reserved-requires
push_reserved-requires c =
    let before = c.loop-input.invariant in
    omega (
      arith,
      before.len,
      ap length before.dashes,
      few_first c.args.inputs.now c.args.entries.now c.loop-input.input (omega (arith, c.loop-input-test.true, c.requires.one_for_each_input)),
      before.capacity,
      c.clear.ensures.capacity,
      c.requires.capacity,
    )

pub loop-input-preserved : goal.loop-input-preserved
loop-input-preserved c =
    let before = c.loop-input.invariant in
    let i = c.loop-input.input in
    elim c.if-is_none.branch [
      | then-is_none w ↦
          let p = w.push_reserved.ensures in
          rw w.dashes-is (record {
            dashes =
                dash_noted c.args.inputs.now c.args.entries.now i (record { 0 = 0 }) _ c.is_none.result _ _ c.requires.one_for_each_input c.loop-input-test.true c.is_none.ensures w.if-is_none.true before.dashes p.items;
            len = one_longer _ _ _ _ _ p.items p.len before.len;
            capacity = p.capacity ∙ before.capacity;
          })
      | else-is_none w ↦
          rw w.dashes-is (record {
            dashes =
                before.dashes
                ∙ sym (no_dash c.args.inputs.now c.args.entries.now i (record { 0 = 0 }) _ c.is_none.result c.requires.one_for_each_input c.loop-input-test.true c.is_none.ensures w.if-is_none.false);
            len = before.len;
            capacity = before.capacity;
          })
    ]
