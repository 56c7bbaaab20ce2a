use Rattle.std.proofs.Common.{arith}
use Rattle.levels.proofs.Bits.{none_joined}
use Rattle.levels.proofs.marks.Marks.past_last.Goals as goal

pub loop-k-preserved : goal.loop-k-preserved
loop-k-preserved c = record {
  within = omega (arith, c.step_down-k.ensures.lower, c.loop-k.invariant.within);
  none = none_joined c.args.self.now c.step_down-k.result c.loop-k.k c.args.end c.step_down-k.ensures.none c.loop-k.invariant.none;
}
