use Rattle.std.proofs.Common.{sym, subst, arith}
use Rattle.simplify.specs.Outcomes.{IsNoMin}
use Rattle.simplify.proofs.At.{shape_at, no_min}
use Rattle.simplify.proofs.places.min_operands.Goals as goal

pub returns-in-Min : goal.returns-in-Min
returns-in-Min c =
    let s = shape_at _ _ _ c.requires.nodes c.requires.b c.in-Min.ensures.at in
    (omega (arith, s.1.0, c.requires.b), omega (arith, s.1.1, c.requires.b), s.0)

pub returns-in_default : goal.returns-in_default
returns-in_default c =
    subst IsNoMin (sym (shape_at _ _ _ c.requires.nodes c.requires.b c.node.ensures.at).0) (no_min c.args.store.now.nodes c.node.result c.in_default.not-Min)
