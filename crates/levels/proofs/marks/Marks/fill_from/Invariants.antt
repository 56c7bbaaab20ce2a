use Rattle.std.proofs.Common.{◌≡◌, length}
use Rattle.levels.specs.Marked.{AreFilled}
use Rattle.levels.proofs.marks.Marks.fill_from.Given as goal

abbrev pub invariant-loop-place : goal.invariant-loop-place
invariant-loop-place l = record {
  room : length l.self-inside.words.items ≡ length l.fn.self;
  filled : AreFilled l.self-inside.words.items l.place l.from;
}
