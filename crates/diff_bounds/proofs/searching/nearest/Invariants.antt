use Rattle.std.proofs.Common.{◌≡◌, ◌≤◌, ◌<◌, ◌⊎◌, ℕ, get_or, IfSome, IfNone}
use Rattle.diff_bounds.proofs.searching.nearest.Given as goal

abbrev pub invariant-loop-place : goal.invariant-loop-place
invariant-loop-place l =
    record {
      most : l.best ≤ l.limit;
      there : IfSome l.found (λ place. place < l.count);
      unset : IfSome l.found (λ place. l.n ≤ get_or l.turns (get_or l.reached place 0) 0);
      best : IfSome l.found (λ place. get_or l.distances (get_or l.reached place 0) 0 ≡ l.best);
      below : IfSome l.found (λ place. get_or l.distances (get_or l.reached place 0) 0 < l.limit);
      none : IfNone l.found (l.best ≡ l.limit);
      nearest : (j : ℕ) → j < l.place → (get_or l.turns (get_or l.reached j 0) 0 < l.n) ⊎ (l.best ≤ get_or l.distances (get_or l.reached j 0) 0);
    }
