use Rattle.std.proofs.Common.{arith, refl}
use Rattle.levels.proofs.Bits.{no_bit, some_bit, and_small}
use Rattle.levels.proofs.marks.first_bit.Goals as goal

pub returns-then-rest-eq0-clause-none : goal.returns-then-rest-eq0-clause-none
returns-then-rest-eq0-clause-none c = (no_bit c.args.word c.args.from _ c.requires refl c.if-rest-eq0.true).none

pub returns-else-rest-eq0-clause-low : goal.returns-else-rest-eq0-clause-low
returns-else-rest-eq0-clause-low c = (some_bit c.args.word c.args.from _ _ c.requires refl (omega arith) (and_small c.args.word _ c.ranges.word.fits) refl).low

pub returns-else-rest-eq0-clause-none : goal.returns-else-rest-eq0-clause-none
returns-else-rest-eq0-clause-none c = (some_bit c.args.word c.args.from _ _ c.requires refl (omega arith) (and_small c.args.word _ c.ranges.word.fits) refl).none

pub returns-else-rest-eq0-clause-found : goal.returns-else-rest-eq0-clause-found
returns-else-rest-eq0-clause-found c = (some_bit c.args.word c.args.from _ _ c.requires refl (omega arith) (and_small c.args.word _ c.ranges.word.fits) refl).found
