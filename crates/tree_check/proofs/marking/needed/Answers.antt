use Rattle.std.proofs.lemmas.Result.{IfOk-weaker}
use Rattle.net_model.specs.View.{formula}
use Rattle.tree_check.proofs.Marks.{places_in_order, places_needed}
use Rattle.tree_check.proofs.marking.needed.Goals as goal

pub returns-clause-in_order : goal.returns-clause-in_order
returns-clause-in_order c =
    IfOk-weaker c.marked_places.result _ _
    (λ places is. places_in_order c.args.inputs c.args.lets.now c.requires.lets_over (formula c.args.body.now) c.in_ok-marks.marks.items c.in_ok-marks.ensures places.items (rw c.deref.ensures.value at is))
    c.marked_places.ensures

pub returns-clause-needed : goal.returns-clause-needed
returns-clause-needed c =
    IfOk-weaker c.marked_places.result _ _
    (λ places is. places_needed c.args.inputs c.args.lets.now c.requires.lets_over (formula c.args.body.now) c.in_ok-marks.marks.items c.in_ok-marks.ensures places.items (rw c.deref.ensures.value at is) c.requires.body_over)
    c.marked_places.ensures
