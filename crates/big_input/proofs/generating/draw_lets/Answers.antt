use Rattle.std.proofs.Common.{rules}
use Rattle.big_input.proofs.Streams.{drawn_more, lets_more}
use Rattle.big_input.proofs.generating.draw_lets.Goals as goal

pub loop-place-preserved : goal.loop-place-preserved
loop-place-preserved c = record {
  drawn = drawn_more c.args.draws.now c.loop-place.draws c.draw_body.new.draws c.loop-place.place c.loop-place.invariant.drawn c.in_ok-body.ensures.drawn;
  lets = lets_more c.args.draws.now c.loop-place.draws c.loop-place.place c.loop-place.lets.items c.push.new.self.items c.new.result c.loop-place.invariant.drawn c.loop-place.invariant.lets (search rules) (search rules);
}
