use Rattle.std.proofs.Common.{◌∙◌, ap, sym, arith}
use Rattle.term_store.specs.Tree.{span}
use Rattle.term_store.specs.Places.{tree_by_places}
use Rattle.simplify.specs.Simplified.{settled, size}
use Rattle.simplify.specs.Outcomes.{outcome_tree}
use Rattle.simplify.proofs.Past.{stride_some, settled_at}
use Rattle.simplify.proofs.settling.settle.Goals as goal

pub loop-outcome-smaller : goal.loop-outcome-smaller
loop-outcome-smaller c =
    let ns = c.args.store.now.nodes in
    let step = stride_some (tree_by_places ns c.loop-outcome.last) (outcome_tree ns c.in-Some.outcome) c.in-Some.ensures.0 in
    omega (arith, ap size c.node_of-last.ensures.tree, step.smaller)

pub loop-outcome-preserved : goal.loop-outcome-preserved
loop-outcome-preserved c =
    let ns = c.args.store.now.nodes in
    let step = stride_some (tree_by_places ns c.loop-outcome.last) (outcome_tree ns c.in-Some.outcome) c.in-Some.ensures.0 in
    record {
      over = c.node_of-last.ensures.over;
      short = omega (arith, ap span c.node_of-last.ensures.tree, step.no_longer, c.loop-outcome.invariant.short);
      settles = ap settled c.node_of-last.ensures.tree ∙ sym step.same ∙ c.loop-outcome.invariant.settles;
    }

pub returns-clause-tree : goal.returns-clause-tree
returns-clause-tree c = sym (settled_at (tree_by_places c.args.store.now.nodes c.loop-outcome.last) c.in_default.ensures) ∙ c.loop-outcome.invariant.settles
