use Rattle.std.proofs.Common.{◌∙◌, ap}
use Rattle.simplify.specs.Outcomes.{before_names}
use Rattle.simplify.proofs.At.{before_at}
use Rattle.simplify.proofs.places.is_lt_before.Goals as goal

pub returns : goal.returns
returns c = c.names_before.ensures ∙ ap (before_names c.args.a.0) c.node.ensures.at ∙ before_at _ _ _ c.requires.nodes c.requires.a c.requires.b
