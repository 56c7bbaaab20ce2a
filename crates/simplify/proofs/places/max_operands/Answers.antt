use Rattle.std.proofs.Common.{sym, subst, arith}
use Rattle.simplify.specs.Outcomes.{IsNoMax}
use Rattle.simplify.proofs.At.{shape_at, no_max}
use Rattle.simplify.proofs.places.max_operands.Goals as goal

pub returns-in-Max : goal.returns-in-Max
returns-in-Max c =
    let s = shape_at _ _ _ c.requires.nodes c.requires.b c.in-Max.ensures.at in
    (omega (arith, s.1.0, c.requires.b), omega (arith, s.1.1, c.requires.b), s.0)

pub returns-in_default : goal.returns-in_default
returns-in_default c =
    subst IsNoMax (sym (shape_at _ _ _ c.requires.nodes c.requires.b c.node.ensures.at).0) (no_max c.args.store.now.nodes c.node.result c.in_default.not-Max)
