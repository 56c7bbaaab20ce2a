use Rattle.std.proofs.Common.{◌≡◌, ◌<◌, false, [], length, get_or, subst, sym, ap, ◌∙◌, refl, arith}
use Rattle.circuit.specs.Meaning.{rows_after}
use Rattle.levels.specs.Levels.{shifted}
use Rattle.levels.specs.Marked.{IsMarked}
use Rattle.marked_steps.specs.UpToDate.{IsSeen}
use Rattle.marked_steps.specs.Shifts.{Edging}
use Rattle.levels.proofs.Listed.{none_through}
use Rattle.marked_steps.proofs.Shifting.{edging_start, edging_on, edging_up, edging_rows, count_rows, state_by, with_row}
use Rattle.marked_steps.proofs.edge.edge_marked.Goals as goal
use Rattle.marked_steps.proofs.edge.edge_marked.Goals.{then-shift_register, else-shift_register}

pub loop-reg-init : goal.loop-reg-init
loop-reg-init c =
    let m = c.args.m.now in
    let s = c.args.levels.now in
    let t = c.take_firsts.ensures in
    record {
      room = t.room;
      moving_room = t.moving_room;
      none = c.first-reg.ensures.none;
      found = c.first-reg.ensures.found;
      changed = omega arith;
      still = λ e. refl;
      edging = edging_start m s c.args.marks.now c.take_firsts.new.marks c.args.moving.now c.take_firsts.new.moving c.take_firsts.new.firsts
          c.requires.levels c.requires.up_to_date (count_rows m.regs s.regs c.requires.levels.regs) t.assigns t.moving t.firsts;
    }

pub loop-reg-preserved : goal.loop-reg-preserved
loop-reg-preserved c =
    let m = c.args.m.now in
    let i = c.loop-reg.invariant in
    let s0 = c.args.levels.now in
    let s = c.loop-reg.levels in
    let reg = c.loop-reg.reg in
    let firsts = c.take_firsts.new.firsts in
    let words' = c.shift_register.new.marks in
    let moving' = c.clear.new.self in
    let first = get_or firsts reg false in
    let lt : reg < length m.regs = let e = ap (λ z. length z) c.regs-count.ensures in omega (arith, c.loop-reg-test.true) in
    let waiting : IsMarked c.loop-reg.moving reg = i.found (omega (arith, lt, i.moving_room, c.requires.moving_room)) in
    let state : c.shift_register.new.levels ≡ with_row s reg (shifted first (get_or s.regs reg [])) = c.shift_register.ensures.state in
    let seen : IsSeen m s (with_row s reg (shifted first (get_or s.regs reg []))) words' = subst (λ z. IsSeen m s z words') state c.shift_register.ensures.seen in
    record {
      room = c.shift_register.ensures.more.room ∙ i.room;
      moving_room = c.clear.ensures.room ∙ i.moving_room;
      none = none_through c.loop-reg.moving moving' reg c.first-reg-in-loop-reg.result i.none c.clear.ensures.cleared c.clear.ensures.others c.first-reg-in-loop-reg.ensures.none;
      found = c.first-reg-in-loop-reg.ensures.found;
      changed = elim c.if-shift_register.branch [
        | then-shift_register w ↦ omega (arith, w.changed-is, i.changed, c.first-reg-in-loop-reg.ensures.low)
        | else-shift_register w ↦ omega (arith, w.changed-is, i.changed, c.first-reg-in-loop-reg.ensures.low)
      ];
      still = elim c.if-shift_register.branch [
        | then-shift_register w ↦ λ e. absurd (omega (arith, w.changed-is, e))
        | else-shift_register w ↦ λ e. c.shift_register.ensures.still w.if-shift_register.false ∙ i.still (sym w.changed-is ∙ e)
      ];
      edging = subst (λ z. Edging m s0 z c.args.marks.now words' moving' firsts) (sym state) (
          edging_on m s0 s c.args.marks.now c.loop-reg.marks words' c.loop-reg.moving moving' firsts reg first c.requires.levels i.edging lt waiting refl
          c.clear.ensures.cleared c.clear.ensures.others c.shift_register.ensures.more seen c.shift_register.ensures.quiet);
    }

pub returns-clause-state : goal.returns-clause-state
returns-clause-state c =
    let m = c.args.m.now in
    let s0 = c.args.levels.now in
    let e = c.loop-reg.invariant.edging in
    let q = ap (λ z. length z) c.regs-count.ensures in
    state_by s0 c.loop-reg.levels (rows_after s0 m.regs s0.regs) e.inputs
    (edging_rows m s0 c.loop-reg.levels c.args.marks.now c.loop-reg.marks c.loop-reg.moving c.take_firsts.new.firsts e
    (count_rows m.regs s0.regs c.requires.levels.regs)
    (λ r lt. c.loop-reg.invariant.none r (omega arith) (omega (arith, lt, q, c.loop-reg-test.false)))) e.wires e.outs

pub returns-clause-up_to_date : goal.returns-clause-up_to_date
returns-clause-up_to_date c =
    let q = ap (λ z. length z) c.regs-count.ensures in
    edging_up c.args.m.now c.args.levels.now c.loop-reg.levels c.args.marks.now c.loop-reg.marks c.loop-reg.moving c.take_firsts.new.firsts
    c.requires.up_to_date c.loop-reg.invariant.edging
    (λ r lt. c.loop-reg.invariant.none r (omega arith) (omega (arith, lt, q, c.loop-reg-test.false)))
