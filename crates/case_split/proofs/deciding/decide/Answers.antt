use Rattle.std.proofs.lemmas.Result.{IfOk-weaker}
use Rattle.tree_check.specs.Valid.{outputs}
use Rattle.case_split.specs.Verdicts.{IsRight, IsEqual}
use Rattle.case_split.proofs.Verdicts.{complete}
use Rattle.case_split.proofs.deciding.decide.Goals as goal

pub returns-clause-complete : goal.returns-clause-complete
returns-clause-complete c = λ items valid few.
    let pair = outputs c.args.first.now c.args.second.now c.args.out in
    IfOk-weaker c.decide_planted-verdict.result (IsRight c.args.premises.now pair c.args.budget) IsEqual
    (complete c.args.premises.now pair c.args.budget items (c.valid_trees_decide.ensures c.args.premises.now pair items c.requires.premises_name_inputs valid) valid few)
    c.decide_planted-verdict.ensures.right
