use Rattle.std.proofs.Common.{◌≡◌, ◌≤◌, ◌<◌, ℕ, length, get_or}
use Rattle.diff_bounds.proofs.pressing.least_of.Given as goal

abbrev pub invariant-loop-number : goal.invariant-loop-number
invariant-loop-number l =
    record {
      there : (k : ℕ) × (k < length l.numbers) × (get_or l.numbers k 0 ≡ l.least);
      least : (k : ℕ) → k < l.number-index → l.least ≤ get_or l.numbers k 0;
    }
