use Rattle.std.proofs.Common.{◌∙◌, ap, sym, arith}
use Rattle.term_store.specs.Tree.{span}
use Rattle.term_store.specs.Trees.{plant_one}
use Rattle.term_store.specs.Places.{tree_by_places}
use Rattle.simplify.specs.Simplified.{simplified}
use Rattle.simplify.proofs.Passed.{node_short, one_passed, place_tree}
use Rattle.simplify.proofs.simplifying.simplify_place.Goals as goal

pub simplify_node-requires-clause-short : goal.simplify_node-requires-clause-short
simplify_node-requires-clause-short c =
    let ns = c.args.store.now.nodes in
    omega (arith, ap (λ n. span (tree_by_places ns n)) c.node-node.ensures.at, node_short ns c.args.marks.now c.args.place c.requires.nodes c.requires.within c.if-not-marks-place.false c.requires.marked)

pub returns-clause-planted : goal.returns-clause-planted
returns-clause-planted c = λ on.
    (let ns = c.args.store.now.nodes in
    let is = ap (tree_by_places ns) c.node-node.ensures.at ∙ sym (place_tree ns c.args.place c.args.marks.now c.requires.nodes c.requires.within c.requires.marked) in
    c.simplify_node.ensures.planted.nodes_are ∙ ap (λ t. plant_one ns (simplified t)) is)

pub returns-clause-after : goal.returns-clause-after
returns-clause-after c =
    let ns = c.args.store.now.nodes in
    let at = c.simplify_node.ensures.planted in
    one_passed ns c.simplify_node.new.store.nodes c.args.marks.now c.args.place c.args.became.now c.simplify_node.result c.requires.within c.requires.marked c.requires.before at.grown
    (λ on. (at.within, at.tree_is ∙ ap simplified (ap (tree_by_places ns) c.node-node.ensures.at ∙ sym (place_tree ns c.args.place c.args.marks.now c.requires.nodes c.requires.within c.requires.marked))))
