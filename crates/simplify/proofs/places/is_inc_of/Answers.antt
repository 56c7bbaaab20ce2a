use Rattle.std.proofs.Common.{◌∙◌, ap}
use Rattle.simplify.specs.Outcomes.{inc_names}
use Rattle.simplify.proofs.At.{inc_at}
use Rattle.simplify.proofs.places.is_inc_of.Goals as goal

pub returns : goal.returns
returns c = c.names_inc.ensures ∙ ap (inc_names c.args.a.0) c.node.ensures.at ∙ inc_at _ _ _ c.requires.nodes c.requires.a c.requires.b
