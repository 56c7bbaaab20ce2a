use Rattle.levels.specs.Rows.{ArePulled}
use Rattle.levels.proofs.row.pull_all.Given as goal

abbrev pub invariant-loop-word : goal.invariant-loop-word
invariant-loop-word l = ArePulled l.fn.words l.start l.word-index l.words l.before
