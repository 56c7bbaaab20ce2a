use Rattle.std.proofs.Common.{sym, subst, arith}
use Rattle.simplify.specs.Outcomes.{IsNoInc}
use Rattle.simplify.proofs.At.{shape_at, no_inc}
use Rattle.simplify.proofs.places.inc_operand.Goals as goal

pub returns-in-Inc : goal.returns-in-Inc
returns-in-Inc c =
    let s = shape_at _ _ _ c.requires.nodes c.requires.b c.in-Inc.ensures.at in
    (omega (arith, s.1.0, c.requires.b), omega (arith, s.1.1), s.0)

pub returns-in_default : goal.returns-in_default
returns-in_default c =
    subst IsNoInc (sym (shape_at _ _ _ c.requires.nodes c.requires.b c.node.ensures.at).0) (no_inc c.args.store.now.nodes c.node.result c.in_default.not-Inc)
