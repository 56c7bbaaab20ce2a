use Rattle.std.proofs.Common.{◌≡◌, ◌≤◌, ◌<◌, ◌+◌, ℕ, length, get_or}
use Rattle.refutation.specs.Path.{at}
use Rattle.diff_bounds.specs.Search.{of, IsOpen, IsRunning}
use Rattle.diff_bounds.proofs.searching.relax_into.Given as goal

abbrev pub invariant-loop-left : goal.invariant-loop-left
invariant-loop-left l =
    record {
      within : l.left ≤ length l.edges;
      leads : (f : ℕ) → f + 1 ≡ l.left → (at l.edges f).to ≡ l.k;
      height : l.height ≡ get_or l.kept l.k 0 + get_or l.distances l.k 0;
      room : (k : ℕ) → k < length l.kept → get_or l.distances k 0 ≤ 4000000000;
      is_open : IsOpen (length l.kept) l.distances (of l.turns) l.limit l.reached l.total;
      keeps : (turn target limit : ℕ) → IsRunning (length l.kept) l.edges (of l.kept) (of l.fn.distances) (of l.fn.vias) (of l.turns) turn target limit l.k (length l.edges)
          → IsRunning (length l.kept) l.edges (of l.kept) (of l.distances) (of l.vias) (of l.turns) turn target limit l.k l.left;
    }

abbrev pub decreases-loop-left : goal.decreases-loop-left
decreases-loop-left l = l.left
