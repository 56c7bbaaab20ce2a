use Rattle.std.proofs.Common.{arith}
use Rattle.diff_bounds.specs.Bounds.{integers}
use Rattle.diff_bounds.proofs.Kept.{broken, solves_more, if_none}
use Rattle.diff_bounds.proofs.judging.judge.Goals as goal

pub returns-in-None-clause-verdict : goal.returns-in-None-clause-verdict
returns-in-None-clause-verdict c =
    let kept = c.args.kept.now in
    let s = if_none c.in_ok-mend.field-0 c.in-None.is c.in_ok-mend.ensures.mended in (
      (integers c.mend.new.kept, s.meets),
      broken c.args.edges.now kept c.args.edge.from c.args.edge.to c.need-need.result c.args.edge.bound
          c.requires.bounds.solution.meets (c.need-need.ensures.more c.if-need-gt0.true) c.if-need-gt0.true,
    )

pub returns-else-is_implied-clause-verdict : goal.returns-else-is_implied-clause-verdict
returns-else-is_implied-clause-verdict c =
    let zero = c.if-need-gt0.false in
    let s = solves_more c.args.n c.args.edges.now c.args.kept.now c.args.edge.from c.args.edge.to c.args.edge.bound c.requires.bounds.solution (c.need-need.ensures.met (omega (arith, zero))) in
    ((integers c.args.kept.now, s.meets), c.is_implied.ensures.not_implied c.if-is_implied.false)

pub returns-else-is_implied-clause-kept : goal.returns-else-is_implied-clause-kept
returns-else-is_implied-clause-kept c =
    let zero = c.if-need-gt0.false in
    solves_more c.args.n c.args.edges.now c.args.kept.now c.args.edge.from c.args.edge.to c.args.edge.bound c.requires.bounds.solution (c.need-need.ensures.met (omega (arith, zero)))
