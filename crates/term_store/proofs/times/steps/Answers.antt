use Rattle.std.proofs.Common.{arith, ◌∙◌, subst}
use Rattle.term_store.specs.declared.node.Node.{Node}
use Rattle.term_store.specs.Nodes.{IsNodeOver}
use Rattle.term_store.specs.Steps.{IsStepOver}
use Rattle.term_store.proofs.Numbers.{step_more, all_steps, are_steps}
use Rattle.term_store.proofs.times.steps.Goals as goal

pub loop-place-preserved : goal.loop-place-preserved
loop-place-preserved c =
    step_more c.loop-place.steps.items c.args.store.now.nodes c.loop-place.place _ c.step.result c.requires.nodes (omega (arith, c.loop-place-test.true, c.len-place-end.ensures.len)) c.loop-place.invariant
    (c.step.ensures.node ∙ c.node.ensures.at)
    (λ m. subst (λ (n : Node). IsNodeOver m n → IsStepOver m c.step.result) c.node.ensures.at (c.step.ensures.over m)) c.in_ok-push.ensures.items

pub returns-clause-nodes : goal.returns-clause-nodes
returns-clause-nodes c = all_steps c.loop-place.steps.items c.args.store.now.nodes c.loop-place.place (omega (arith, c.len-place-end.ensures.len)) c.loop-place.invariant

pub returns-clause-steps : goal.returns-clause-steps
returns-clause-steps c = are_steps c.loop-place.steps.items c.args.store.now.nodes c.loop-place.place c.requires.nodes (omega (arith, c.len-place-end.ensures.len)) c.loop-place.invariant
