use Rattle.std.proofs.Common.{◌∙◌, ap}
use Rattle.simplify.specs.Outcomes.{min_names}
use Rattle.simplify.proofs.At.{min_at}
use Rattle.simplify.proofs.places.is_min_of.Goals as goal

pub returns : goal.returns
returns c = c.names_min.ensures ∙ ap (min_names c.args.a.0) c.node.ensures.at ∙ min_at _ _ _ c.requires.nodes c.requires.a c.requires.b
