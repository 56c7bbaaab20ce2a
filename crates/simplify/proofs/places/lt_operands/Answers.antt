use Rattle.std.proofs.Common.{sym, subst, arith}
use Rattle.simplify.specs.Outcomes.{IsNoLt}
use Rattle.simplify.proofs.At.{shape_at, no_lt}
use Rattle.simplify.proofs.places.lt_operands.Goals as goal

pub returns-in-Lt : goal.returns-in-Lt
returns-in-Lt c =
    let s = shape_at _ _ _ c.requires.nodes c.requires.b c.in-Lt.ensures.at in
    (omega (arith, s.1.0, c.requires.b), omega (arith, s.1.1, c.requires.b), s.0)

pub returns-in_default : goal.returns-in_default
returns-in_default c =
    subst IsNoLt (sym (shape_at _ _ _ c.requires.nodes c.requires.b c.node.ensures.at).0) (no_lt c.args.store.now.nodes c.node.result c.in_default.not-Lt)
