use Rattle.std.proofs.Common.{◌∙◌, refl, arith}
use Rattle.levels.proofs.Edges.{shifted_start, shifted_on, count_shifted, not_moved}
use Rattle.levels.proofs.edge.shift_all.Goals as goal
use Rattle.levels.proofs.edge.shift_all.Goals.{then-changes, else-changes}

pub loop-reg-init : goal.loop-reg-init
loop-reg-init c = record { shifted = shifted_start _ _; changed = omega arith; still = λ e. refl }

pub changes-requires : goal.changes-requires
changes-requires c = omega (arith, count_shifted _ _ _ _ c.loop-reg.invariant.shifted, c.requires, c.loop-reg-test.true)

pub shift-requires : goal.shift-requires
shift-requires c = omega (arith, count_shifted _ _ _ _ c.loop-reg.invariant.shifted, c.requires, c.loop-reg-test.true)

pub loop-reg-preserved : goal.loop-reg-preserved
loop-reg-preserved c = record {
  shifted = shifted_on c.args.firsts.now c.args.levels.now c.loop-reg.levels c.shift.new.self c.loop-reg.reg _ c.loop-reg.invariant.shifted c.loop-reg-test.true c.requires refl c.shift.ensures;
  changed = elim c.if-changes.branch [
    | then-changes w ↦ omega (arith, w.changed-is, c.loop-reg.invariant.changed)
    | else-changes w ↦ omega (arith, w.changed-is, c.loop-reg.invariant.changed)
  ];
  still = elim c.if-changes.branch [
    | then-changes w ↦ λ e. absurd (omega (arith, w.changed-is, e))
    | else-changes w ↦ λ e.
        c.shift.ensures ∙ (not_moved c.loop-reg.levels c.loop-reg.reg _ (c.changes.ensures w.if-changes.false)
        ∙ c.loop-reg.invariant.still (omega (arith, w.changed-is, e)))
  ];
}
