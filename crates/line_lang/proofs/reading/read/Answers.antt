use Rattle.std.proofs.Common.{refl, arith}
use Rattle.line_lang.proofs.Turns.{text_begins, text_goes_on, fewer}
use Rattle.line_lang.proofs.reading.read.Goals as goal

pub loop-number-init : goal.loop-number-init
loop-number-init g c = record {
  reached = text_begins g.D.LineReader.language c.args.text.now (g.D.LineReader.so_far c.args.draft) c.new-lines.result c.in_default.ensures.bad c.new-lines.ensures.lines c.requires.empty;
  few = let s = c.requires.small in let f = c.new-lines.ensures.few in omega (arith, s, f);
  sound = c.requires.sound;
}

pub loop-number-preserved : goal.loop-number-preserved
loop-number-preserved g c = record {
  reached = text_goes_on g.D.LineReader.language c.args.text.now (g.D.LineReader.so_far c.loop-number.draft) c.loop-number.lines c.loop-number.invariant.reached c.in-Some-next.number c.in-Some-next.line c.in-Some-next.line
      c.next.new.self (g.D.LineReader.so_far c.read_line.new.draft) c.in-Some-next.ensures refl c.in-Ok.ensures.judged;
  few = fewer _ _ _ _ _ _ c.loop-number.invariant.few c.in-Some-next.ensures c.in-Ok.ensures.grows;
  sound = c.in-Ok.ensures.sound;
}
