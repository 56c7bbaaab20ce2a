use Rattle.std.proofs.Common.{◌≡◌, ◌-◌, ◌<◌, length, suc, arith, sym, subst}
use Rattle.std.proofs.lemmas.Grind.{common_steps}
use Rattle.net_model.specs.View.{formula}
use Rattle.tree_check.specs.Needed.{AreMarks}
use Rattle.tree_check.proofs.Setting.{body-is}
use Rattle.tree_check.proofs.Marks.{marks-begin, marks-more}
use Rattle.tree_check.proofs.marking.mark_all.Goals as goal

pub loop-at-init : goal.loop-at-init
loop-at-init c =
    marks-begin c.args.inputs c.args.lets.now (formula c.args.body.now) c.in-Ok.marks.items _ c.mark_names.ensures (let e = c.in-Ok.ensures.items in grind (arith, common_steps)) c.requires.body_over

pub loop-at-preserved-then-index : goal.loop-at-preserved-then-index
loop-at-preserved-then-index c =
    let at : c.loop-at.at ≡ suc (c.loop-at.at - 1) = omega arith in
    let lt : c.loop-at.at - 1 < length c.args.lets.now = omega arith in
    let is = rw (c.body.ensures, sym (body-is c.args.lets.now (c.loop-at.at - 1) c.index-lets-at.result lt c.index-lets-at.is)) at c.mark_names-then-index.ensures in
    marks-more c.args.inputs c.args.lets.now (formula c.args.body.now) (c.loop-at.at - 1) c.loop-at.marks.items _ c.requires.lets_over lt is
    (subst (λ k. AreMarks c.args.lets.now (formula c.args.body.now) k c.loop-at.marks.items) at c.loop-at.invariant)
