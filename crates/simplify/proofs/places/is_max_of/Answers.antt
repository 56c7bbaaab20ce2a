use Rattle.std.proofs.Common.{◌∙◌, ap}
use Rattle.simplify.specs.Outcomes.{max_names}
use Rattle.simplify.proofs.At.{max_at}
use Rattle.simplify.proofs.places.is_max_of.Goals as goal

pub returns : goal.returns
returns c = c.names_max.ensures ∙ ap (max_names c.args.a.0) c.node.ensures.at ∙ max_at _ _ _ c.requires.nodes c.requires.a c.requires.b
