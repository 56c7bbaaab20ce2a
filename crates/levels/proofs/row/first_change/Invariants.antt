use Rattle.std.proofs.Common.{◌≡◌, ℕ, ◌*◌, ◌<◌, ◌≤◌, length}
use Rattle.levels.specs.Marked.{mark_at}
use Rattle.levels.specs.Rows.{moved_at}
use Rattle.levels.proofs.row.first_change.Given as goal

abbrev pub invariant-loop-place : goal.invariant-loop-place
invariant-loop-place l = (j : ℕ) → l.from ≤ j → j < 64 * l.place → j < 64 * length l.words → moved_at l.start l.words j ≡ mark_at l.words j
