use Rattle.std.proofs.Common.{◌≡◌, ◌≤◌, length}
use Rattle.std.specs.List.{All}
use Rattle.tree_check.proofs.table.empty_cells.Given as goal

abbrev pub invariant-loop-made : goal.invariant-loop-made
invariant-loop-made l =
    record {
      long : length l.cells.items ≡ l._made;
      older : All (λ c. c.stamp ≤ 0) l.cells.items;
    }
