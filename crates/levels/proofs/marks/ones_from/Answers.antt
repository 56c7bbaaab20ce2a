use Rattle.std.proofs.Common.{refl, arith}
use Rattle.levels.proofs.Filling.{all_filled, some_filled}
use Rattle.levels.proofs.marks.ones_from.Goals as goal

pub returns-then-from-first : goal.returns-then-from-first
returns-then-from-first c = all_filled c.args.place c.args.from c.if-from-first.true

pub returns-then-from-first-lt64 : goal.returns-then-from-first-lt64
returns-then-from-first-lt64 c = some_filled c.args.place c.args.from _ (omega (arith, c.if-from-first.false)) c.if-from-first-lt64.true refl
