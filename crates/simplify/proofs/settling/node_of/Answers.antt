use Rattle.std.proofs.Common.{◌∙◌, ap, sym, subst, length}
use Rattle.simplify.specs.Outcomes.{outcome_tree, IsOutcomeOver}
use Rattle.simplify.proofs.At.{shape_at}
use Rattle.simplify.proofs.settling.node_of.Goals as goal

pub returns-in-Held-clause-tree : goal.returns-in-Held-clause-tree
returns-in-Held-clause-tree c =
    let ns = c.args.store.now.nodes in
    sym (ap (outcome_tree ns) c.in-Held.is ∙ (shape_at ns c.in-Held.term.0 c.node.result c.requires.nodes (subst (IsOutcomeOver (length ns)) c.in-Held.is c.requires.over) c.node.ensures.at).0)
