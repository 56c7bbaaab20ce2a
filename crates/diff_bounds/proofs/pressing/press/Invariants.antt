use Rattle.std.proofs.Common.{◌≡◌, ◌≤◌, ◌<◌, ◌+◌, ◌*◌, ℕ, List, length, get_or}
use Rattle.refutation.specs.Path.{MeetsAll}
use Rattle.refutation.specs.declared.assumption.Assumption.{Assumption}
use Rattle.diff_bounds.specs.Bounds.{integers}
use Rattle.diff_bounds.specs.Pressing.{above, AreNear}
use Rattle.diff_bounds.proofs.pressing.press.Given as goal

abbrev pub invariant-loop-next : goal.invariant-loop-next
invariant-loop-next l =
    record {
      zero : (k : ℕ) × (k < length l.numbers) × (get_or l.numbers k 0 ≡ 0);
      small : l.floor + 1000001 * above l.floor l.numbers ≤ 63000063;
      keeps : (edges : List Assumption) → AreNear (length l.fn.numbers) edges → MeetsAll (integers l.fn.numbers) edges → MeetsAll (integers l.numbers) edges;
    }

abbrev pub decreases-loop-next : goal.decreases-loop-next
decreases-loop-next l = above l.floor l.numbers
