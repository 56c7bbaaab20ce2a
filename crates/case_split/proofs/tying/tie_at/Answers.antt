use Rattle.std.proofs.Common.{sym, subst, arith}
use Rattle.term_store.specs.Nodes.{IsNodeOver}
use Rattle.case_split.proofs.tying.tie_at.Goals as goal

pub way_down-requires : goal.way_down-requires
way_down-requires c =
    let s = c.in-Some.ensures c.args.place.0 (subst (IsNodeOver c.args.place.0) (sym c.node.ensures.at) (c.rules.ensures.rules.lower c.args.place.0 c.requires.within)) in
    record { term = omega (arith, s.0, c.requires.within) }

pub way_down-requires-2 : goal.way_down-requires-2
way_down-requires-2 c =
    let s = c.in-Some.ensures c.args.place.0 (subst (IsNodeOver c.args.place.0) (sym c.node.ensures.at) (c.rules.ensures.rules.lower c.args.place.0 c.requires.within)) in
    record { term = omega (arith, s.1, c.requires.within) }
