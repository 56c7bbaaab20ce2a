use Rattle.std.proofs.Common.{◌≡◌, ◌-◌, subst, arith}
use Rattle.std.proofs.lemmas.Grind.{common_steps}
use Rattle.term_store.proofs.Marks.{marks_begin, operands_more, marks_are, AreMarks, marked}
use Rattle.term_store.proofs.reach.reached.Goals as goal

pub loop-at-init : goal.loop-at-init
loop-at-init c = marks_begin _ _ _ _ c.len-len.ensures.len c.requires.roots c.in_ok-marks.ensures.len c.in_ok-marks.ensures.marks

pub loop-at-preserved-then-index : goal.loop-at-preserved-then-index
loop-at-preserved-then-index c =
    let m : marked c.loop-at.marks.items (c.loop-at.at - 1) = grind (arith, common_steps) in
    operands_more _ _ c.loop-at.at c.loop-at.marks.items _ c.node.result c.rules.ensures.rules (omega arith) (omega (arith, c.len-len.ensures.len)) c.loop-at.invariant m c.node.ensures.at
    c.mark_operands.ensures.len c.mark_operands.ensures.marks

pub returns-clause-marks : goal.returns-clause-marks
returns-clause-marks c =
    marks_are _ _ _ c.rules.ensures.rules c.requires.roots (let e : c.loop-at.at ≡ 0 = omega arith in subst (λ k. AreMarks c.args.store.now.nodes c.args.roots.now k c.loop-at.marks.items) e c.loop-at.invariant)
