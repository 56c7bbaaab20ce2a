use Rattle.std.proofs.Common.{◌*◌}
use Rattle.levels.specs.Marked.{NoneFrom}
use Rattle.levels.proofs.marks.Marks.first.Given as goal

abbrev pub invariant-loop-place : goal.invariant-loop-place
invariant-loop-place l = NoneFrom l.self l.from (64 * l.place)
