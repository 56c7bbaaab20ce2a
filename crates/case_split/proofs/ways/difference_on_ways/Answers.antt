use Rattle.std.proofs.Common.{subst, sym, ap, ◌∙◌, []}
use Rattle.tree_check.specs.Valid.{root}
use Rattle.case_split.specs.Stages.{Stage}
use Rattle.case_split.specs.Task.{Task, IsTask}
use Rattle.case_split.specs.Walk.{IsAt}
use Rattle.case_split.proofs.Walking.{begins_at}
use Rattle.case_split.proofs.ways.difference_on_ways.Goals as goal

pub difference_on_a_way-requires-clause-at : goal.difference_on_a_way-requires-clause-at
difference_on_a_way-requires-clause-at c =
    let task = c.new-question.result in
    let rules : IsTask task = subst (λ (t : Task). IsTask t) (sym c.new-question.ensures) c.requires.task in
    let here = c.loop-way.invariant.now ∙ sym (ap (λ (t : Task). record { path = root t.premises; facts = []; forms = [] }) c.new-question.ensures) in
    subst (λ (s : Stage). IsAt task s) (sym here) (begins_at task rules)
