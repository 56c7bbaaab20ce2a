use Rattle.std.proofs.Common.{◌≡◌, ◌<◌, ℕ, get_or}
use Rattle.diff_bounds.proofs.searching.fill_distances.Given as goal

abbrev pub invariant-loop-distance : goal.invariant-loop-distance
invariant-loop-distance l = (k : ℕ) → k < l.distance-index → get_or l.distances k 0 ≡ l.limit
