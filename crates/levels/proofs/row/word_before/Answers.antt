use Rattle.levels.proofs.Words.{before_first, before_next}
use Rattle.levels.proofs.row.word_before.Goals as goal

pub returns-then-place-eq0 : goal.returns-then-place-eq0
returns-then-place-eq0 c = before_first c.args.words.now c.args.start c.args.place c.if-place-eq0.true

pub returns-else-place-eq0 : goal.returns-else-place-eq0
returns-else-place-eq0 c = before_next c.args.words.now c.args.start c.args.place c.if-place-eq0.false
