use Rattle.std.proofs.Common.{ap, ◌∙◌, List}
use Rattle.term_store.specs.declared.node.Node.{Node}
use Rattle.term_store.specs.Tree.{value}
use Rattle.term_store.specs.Trees.{tree}
use Rattle.causality.proofs.Reaching.{output_is}
use Rattle.causality.proofs.output.Output.new.Goals as goal

pub returns : goal.returns
returns c x =
    ap (λ (nodes : List Node). value x (tree nodes c.index-2.result.now.0)) c.in_ok-evaluator.ensures.nodes
    ∙ output_is c.args.n.now x c.args.out c.build.new.self.nodes c.in_ok-part.part.nodes c.in_ok-outputs.outputs.items c.in_ok-part.places.items c.index.result.now c.index-2.result.now
    (c.terms_have_the_networks_values.ensures.law c.args.n.now) c.requires.output c.in_ok-outputs.ensures.terms c.index.ensures c.in_ok-part.ensures.terms c.index-2.ensures
