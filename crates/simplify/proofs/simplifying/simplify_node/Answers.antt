use Rattle.std.proofs.Common.{◌∙◌, ap, subst, sym, arith, length}
use Rattle.term_store.specs.Tree.{span}
use Rattle.term_store.specs.Nodes.{IsNodeOver}
use Rattle.term_store.specs.Trees.{plant_one}
use Rattle.term_store.specs.Places.{tree_by_places}
use Rattle.simplify.specs.Simplified.{settled}
use Rattle.simplify.proofs.Passed.{after_over, after_tree, after_span}
use Rattle.simplify.proofs.Noted.{ends_grown}
use Rattle.simplify.proofs.simplifying.simplify_node.Goals as goal

pub settle-last-requires-clause-short : goal.settle-last-requires-clause-short
settle-last-requires-clause-short c =
    let ns = c.args.store.now.nodes in
    omega (arith, ap (λ n. span (tree_by_places ns n)) c.over_simplified.ensures.node, after_span ns c.args.became.now c.args.node c.requires.operands, c.requires.short)

pub settle-last-requires-clause-over : goal.settle-last-requires-clause-over
settle-last-requires-clause-over c =
    let ns = c.args.store.now.nodes in
    subst (IsNodeOver (length ns)) (sym c.over_simplified.ensures.node) (after_over ns c.args.became.now (length c.args.became.now) c.args.node c.requires.over c.requires.operands)

pub returns-clause-planted : goal.returns-clause-planted
returns-clause-planted c =
    let ns = c.args.store.now.nodes in
    let p = c.put-to.ensures.planted in
    let is = c.settle-last.ensures.tree ∙ ap (λ n. settled (tree_by_places ns n)) c.over_simplified.ensures.node ∙ after_tree ns c.args.became.now c.args.node c.requires.operands in
    record {
      is_nodes = p.is_nodes;
      grown = p.grown;
      nodes_are = p.nodes_are ∙ ap (plant_one ns) is;
      within = p.within;
      tree_is = p.tree_is ∙ is;
    }

pub note_ends-requires-clause-ends : goal.note_ends-requires-clause-ends
note_ends-requires-clause-ends c = ends_grown _ _ _ c.put-to.ensures.planted.grown c.requires.ends
