use Rattle.std.proofs.Common.{arith}
use Rattle.rl_io.proofs.Adding.{adds_more, rest_of}
use Rattle.rl_io.proofs.putting.put_all.Goals as goal

pub loop-done-preserved : goal.loop-done-preserved
loop-done-preserved g c = record {
  planned = cc (c.put.ensures.planned, c.loop-done.invariant.planned);
  within = omega (arith, c.in-Took.ensures.bytes.1);
  added = adds_more _ _ _ c.args.text.now c.loop-done.done c.in-Took.n c.loop-done.invariant.added (simp rest_of at c.in-Took.ensures.bytes.2);
  later = omega (arith, c.put.ensures.later);
}
