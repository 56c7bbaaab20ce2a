use Rattle.std.proofs.Common.{◌≤◌, ◌+◌, ℕ}
use Rattle.diff_bounds.specs.Search.{of, IsOpen, IsRunning, unset}
use Rattle.diff_bounds.proofs.searching.settle.Given as goal

abbrev pub invariant-loop-place : goal.invariant-loop-place
invariant-loop-place l =
    record {
      few : l.turn + unset l.n l.turns ≤ l.n;
      is_open : IsOpen l.n l.distances (of l.turns) l.question.stop l.reached l.count;
      running : (k : ℕ) × IsRunning l.n l.edges (of l.kept) (of l.distances) (of l.vias) (of l.turns) l.turn l.question.target l.question.limit k 0;
    }

abbrev pub decreases-loop-place : goal.decreases-loop-place
decreases-loop-place l = unset l.n l.turns
