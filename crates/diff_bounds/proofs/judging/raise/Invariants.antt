use Rattle.std.proofs.Common.{◌≡◌, ◌≤◌, ◌<◌, ◌+◌, ℕ, get_or}
use Rattle.diff_bounds.proofs.judging.raise.Given as goal

abbrev pub invariant-loop-k : goal.invariant-loop-k
invariant-loop-k l =
    record {
      done : (j : ℕ) → j < l.k → get_or l.kept j 0 ≡ get_or l.fn.kept j 0 + get_or l.distances j 0;
      rest : (j : ℕ) → l.k ≤ j → get_or l.kept j 0 ≡ get_or l.fn.kept j 0;
    }
