use Rattle.std.proofs.Common.{◌≡◌, ◌≤◌, ◌<◌, ◌⊎◌, ℕ, length, get_or, IfSome, IfNone}
use Rattle.diff_bounds.proofs.pressing.next_above.Given as goal

abbrev pub invariant-loop-number : goal.invariant-loop-number
invariant-loop-number l =
    record {
      there : IfSome l.found (λ next. (k : ℕ) × (k < length l.numbers) × (get_or l.numbers k 0 ≡ next));
      higher : IfSome l.found (λ next. l.floor < next);
      least : IfSome l.found (λ next. (k : ℕ) → k < l.number-index → (get_or l.numbers k 0 ≤ l.floor) ⊎ (next ≤ get_or l.numbers k 0));
      none : IfNone l.found ((k : ℕ) → k < l.number-index → get_or l.numbers k 0 ≤ l.floor);
    }
