use Rattle.std.proofs.Common.{◌≡◌, ◌≤◌, ◌<◌, ◌-◌, ℕ, get_or}
use Rattle.diff_bounds.proofs.pressing.lower_all.Given as goal

abbrev pub invariant-loop-number : goal.invariant-loop-number
invariant-loop-number l =
    record {
      done : (k : ℕ) → k < l.number-index → get_or l.numbers k 0 ≡ get_or l.fn.numbers k 0 - l.by;
      rest : (k : ℕ) → l.number-index ≤ k → get_or l.numbers k 0 ≡ get_or l.fn.numbers k 0;
    }
