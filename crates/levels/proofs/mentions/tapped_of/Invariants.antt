use Rattle.std.proofs.Common.{◌≡◌, ℕ, ◌*◌, ◌<◌, ◌≤◌, [], length}
use Rattle.levels.specs.Marked.{IsUnmarked}
use Rattle.levels.specs.Operands.{list_at}
use Rattle.levels.proofs.mentions.tapped_of.Given as goal

abbrev pub invariant-loop-place : goal.invariant-loop-place
invariant-loop-place l = record {
  room : l.count ≤ 64 * length l.tapped;
  by : (p : ℕ) → p < l.place → IsUnmarked l.tapped p → list_at l.lists p ≡ [];
}
