use Rattle.std.proofs.Common.{◌≡◌, ◌<◌, List, length, get_or, subst, ◌∙◌}
use Rattle.net_model.specs.Formula.{Equation}
use Rattle.case_split.specs.Verdicts.{IsEqual}
use Rattle.case_split.proofs.EqualOutputs.{first_difference, first_undecided, one_equal}
use Rattle.case_split.proofs.comparing.compare.Goals as goal

pub returns-in-Different-clause-compared : goal.returns-in-Different-clause-compared
returns-in-Different-clause-compared c =
    first_difference _ _ _ _ c.valid_trees_decide.ensures c.loop-out.trees.items c.loop-out.out c.in_ok-tree.field-0 c.in-Different.times c.requires.premises_name_inputs
    (subst (λ (es : List Equation). c.loop-out.out < length es) c.outputs-output-items.ensures c.loop-out-test.true) c.loop-out.invariant.shown c.in_ok-tree.ensures.right c.in-Different.is

pub returns-in-Undecided-clause-compared : goal.returns-in-Undecided-clause-compared
returns-in-Undecided-clause-compared c =
    first_undecided _ _ _ _ c.valid_trees_decide.ensures c.loop-out.trees.items c.loop-out.out _ c.in_ok-tree.field-0 _ c.requires.premises_name_inputs
    (subst (λ (es : List Equation). c.loop-out.out < length es) c.outputs-output-items.ensures c.loop-out-test.true) c.loop-out.invariant.shown c.in_ok-tree.ensures.right c.in-Undecided.is c.cases.ensures

pub loop-out-preserved : goal.loop-out-preserved
loop-out-preserved c = record {
  store = c.decide.ensures.store ∙ c.loop-out.invariant.store;
  shown = rw c.in_ok-push-in-Equal.ensures.items
      (one_equal _ _ _ _ c.loop-out.trees.items c.loop-out.out c.output-item.result c.in_ok-tree.field-0 c.in-Equal.tree c.in_ok-copy-in-Equal.field-0
      (subst (λ (es : List Equation). c.loop-out.out < length es) c.outputs-output-items.ensures c.loop-out-test.true)
      (subst (λ (es : List Equation). c.output-item.result ≡ get_or es c.loop-out.out c.output-item.result) c.outputs-output-items.ensures c.output-item.is)
      (c.in_ok-copy-in-Equal.ensures ∙ c.name.ensures) c.loop-out.invariant.shown c.in_ok-tree.ensures.right c.in-Equal.is);
}

pub returns-in-Different-clause-complete : goal.returns-in-Different-clause-complete
returns-in-Different-clause-complete c = λ fit.
    let lt = subst (λ (es : List Equation). c.loop-out.out < length es) c.outputs-output-items.ensures c.loop-out-test.true in
    let tree = fit c.loop-out.out lt in
    subst IsEqual c.in-Different.is (c.in_ok-tree.ensures.complete tree.0 tree.1 tree.2)

pub returns-in-Undecided-clause-complete : goal.returns-in-Undecided-clause-complete
returns-in-Undecided-clause-complete c = λ fit.
    let lt = subst (λ (es : List Equation). c.loop-out.out < length es) c.outputs-output-items.ensures c.loop-out-test.true in
    let tree = fit c.loop-out.out lt in
    subst IsEqual c.in-Undecided.is (c.in_ok-tree.ensures.complete tree.0 tree.1 tree.2)
