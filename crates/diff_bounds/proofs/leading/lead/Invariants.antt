use Rattle.std.proofs.Common.{◌≡◌, ◌≤◌, ◌<◌, ◌+◌, ◌⊎◌, ℕ, length}
use Rattle.std.specs.Prelude.{pos, ◌+ℤ◌, ◌-ℤ◌, ◌≤ℤ◌}
use Rattle.refutation.specs.Path.{at}
use Rattle.diff_bounds.specs.Search.{of, IsHeld}
use Rattle.diff_bounds.proofs.leading.lead.Given as goal

abbrev pub invariant-loop-left : goal.invariant-loop-left
invariant-loop-left l =
    record {
      within : l.left ≤ length l.edges;
      begins : (f : ℕ) → f + 1 ≡ l.left → (at l.edges f).from ≡ l.k;
      most : l.least ≤ l.most;
      lead : (f : ℕ) → l.left ≤ f → f < length l.edges → (at l.edges f).from ≡ l.k
          → (((pos (of l.kept l.k) +ℤ pos l.least) -ℤ pos (of l.kept (at l.edges f).to)) ≤ℤ (at l.edges f).bound) ⊎ IsHeld l.edges f;
    }

abbrev pub decreases-loop-left : goal.decreases-loop-left
decreases-loop-left l = l.left
