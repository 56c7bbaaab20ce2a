use Rattle.std.proofs.Common.{ap, length, subst}
use Rattle.std.specs.Prelude.{IfSome}
use Rattle.term_store.specs.Trees.{tree}
use Rattle.tree_check.specs.Valid.{outputs}
use Rattle.case_split.specs.Verdicts.{IsTermDifference}
use Rattle.case_split.proofs.Tasks.{asked_of, is_task, joins_of_pair}
use Rattle.case_split.proofs.Verdicts.{drawn, decision_of}
use Rattle.case_split.proofs.deciding.decide_planted.Goals as goal

pub settle-requires-clause-task : goal.settle-requires-clause-task
settle-requires-clause-task c =
    is_task (outputs c.args.first.now c.args.second.now c.args.out)
    (asked_of c.args.first.now c.args.second.now c.args.out c.rules.ensures c.rules-2.ensures c.requires.same_inputs c.requires.first_has c.requires.second_has)
    c.in_ok-part.part.nodes c.in_ok-part.one c.in_ok-part.other c.in_ok-part.ensures.part c.rules-3.ensures.rules (length c.inputs.result.now) c.args.premises.now
    (ap length c.inputs.ensures) c.requires.few_premises c.requires.premises_name_inputs c.requires.small_premises

pub returns-in-Some-clause-right : goal.returns-in-Some-clause-right
returns-in-Some-clause-right c =
    let n = length c.inputs.result.now in
    let one = tree c.in_ok-part.part.nodes c.in_ok-part.one.0 in
    let other = tree c.in_ok-part.part.nodes c.in_ok-part.other.0 in
    drawn (outputs c.args.first.now c.args.second.now c.args.out) c.args.premises.now n one other c.in-Some.times.items (ap length c.inputs.ensures) c.in_ok-part.ensures.part.terms
    (subst (λ found. IfSome found (λ times. IsTermDifference n c.args.premises.now one other times.items)) c.in-Some.is c.in_ok-times.ensures)

pub returns-clause-right : goal.returns-clause-right
returns-clause-right c =
    c.verdict.ensures c.args.premises.now (outputs c.args.first.now c.args.second.now c.args.out) c.args.budget c.requires.premises_name_inputs
    (decision_of _ _ _ _ c.args.budget c.args.premises.now _ _ _ _ c.in_ok-decision.decision (ap length c.inputs.ensures)
    (joins_of_pair (outputs c.args.first.now c.args.second.now c.args.out)
    (asked_of c.args.first.now c.args.second.now c.args.out c.rules.ensures c.rules-2.ensures c.requires.same_inputs c.requires.first_has c.requires.second_has)
    c.in_ok-part.part.nodes c.in_ok-part.one c.in_ok-part.other c.in_ok-part.ensures.part c.rules-3.ensures.rules)
    c.in_ok-part.ensures.part.terms c.in_ok-decision.ensures)
