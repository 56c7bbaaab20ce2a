use Rattle.std.proofs.Common.{[], length, get_or, ◌∙◌, arith}
use Rattle.levels.proofs.Edges.{not_moved, same_shifted}
use Rattle.marked_steps.proofs.Shifting.{shift_seen, quiet_row}
use Rattle.marked_steps.proofs.edge.shift_register.Goals as goal

pub returns-clause-seen : goal.returns-clause-seen
returns-clause-seen c =
    let s = c.args.levels.now in
    let words = c.mark_changes-changes.new.marks in
    rw c.shift.ensures (record {
      by = shift_seen c.args.m.now c.args.readers.now.starts.items c.args.readers.now.lists s words c.args.reg c.args.first
          (omega (arith, c.requires.a_register, c.requires.rows)) c.requires.readers
          (let r = c.mark_changes-changes.ensures.more.room in omega (arith, c.requires.room)) c.mark_changes-changes.ensures.seen;
    })

pub returns-clause-quiet : goal.returns-clause-quiet
returns-clause-quiet c = quiet_row _ _ _ _ c.mark_changes-changes.ensures.quiet

pub returns-clause-still : goal.returns-clause-still
returns-clause-still c = λ e.
    let s = c.args.levels.now in
    let row = get_or s.regs c.args.reg [] in
    c.shift.ensures ∙ not_moved s c.args.reg c.args.first
    (same_shifted c.args.first row (length row) (omega arith) (λ j low lt w. (c.mark_changes-changes.ensures.still e).by j lt w))
