use Rattle.std.proofs.Common.{◌∙◌, ap, sym}
use Rattle.simplify.specs.Simplified.{is_never}
use Rattle.simplify.proofs.At.{shape_at, no_never}
use Rattle.simplify.proofs.places.is_never.Goals as goal

pub returns-in-Never : goal.returns-in-Never
returns-in-Never c = ap is_never (sym (shape_at _ _ _ c.requires.nodes c.requires.a c.in-Never.ensures.at).0)

pub returns-in_default : goal.returns-in_default
returns-in_default c = no_never c.args.store.now.nodes c.node.result c.in_default.not-Never ∙ ap is_never (sym (shape_at _ _ _ c.requires.nodes c.requires.a c.node.ensures.at).0)
