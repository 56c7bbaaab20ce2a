use Rattle.std.proofs.Common.{sym, subst, arith}
use Rattle.term_store.specs.Nodes.{IsNodeOver}
use Rattle.case_split.proofs.tying.way_down.Goals as goal

pub loop-next-smaller : goal.loop-next-smaller
loop-next-smaller c = c.in-Some.ensures c.loop-next.at.0 (subst (IsNodeOver c.loop-next.at.0) (sym c.node.ensures.at) (c.rules.ensures.rules.lower c.loop-next.at.0 c.loop-next.invariant))

pub loop-next-preserved : goal.loop-next-preserved
loop-next-preserved c =
    let s = c.in-Some.ensures c.loop-next.at.0 (subst (IsNodeOver c.loop-next.at.0) (sym c.node.ensures.at) (c.rules.ensures.rules.lower c.loop-next.at.0 c.loop-next.invariant)) in
    omega (arith, s, c.loop-next.invariant)
