use Rattle.std.proofs.Common.{◌∙◌, ap}
use Rattle.simplify.specs.Outcomes.{lt_names}
use Rattle.simplify.proofs.At.{lt_at}
use Rattle.simplify.proofs.places.is_lt_of.Goals as goal

pub returns : goal.returns
returns c = c.names_lt.ensures ∙ ap (lt_names c.args.a.0) c.node.ensures.at ∙ lt_at _ _ _ c.requires.nodes c.requires.a c.requires.b
