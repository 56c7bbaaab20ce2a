use Rattle.std.proofs.Common.{◌≡◌, drop, ℕ, ℤ}
use Rattle.std.specs.Prelude.{◌||◌}
use Rattle.tree_check.specs.Bounds.{AreCells, cells_say}
use Rattle.tree_check.specs.Valid.{listed}
use Rattle.tree_check.proofs.table.enter_all.Given as goal

abbrev pub invariant-loop-fact : goal.invariant-loop-fact
invariant-loop-fact l =
    record {
      cells : AreCells l.cells l.stamp;
      known : (i j : ℕ) (w : ℤ) → (cells_say l.cells l.stamp i j w || listed (drop l.fact-index l.facts) i j w) ≡ listed l.facts i j w;
    }
