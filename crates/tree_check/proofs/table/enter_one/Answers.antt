use Rattle.std.proofs.Common.{◌+◌, ◌*◌, arith, inl, inr, slice_index_or, to_z, of_z, w64}
use Rattle.std.proofs.lemmas.Int.{ints}
use Rattle.tree_check.specs.Bounds.{empty_cell}
use Rattle.tree_check.proofs.Cells.{cells-set-as, IsWorse}
use Rattle.tree_check.proofs.table.enter_one.Goals as goal
use Rattle.tree_check.proofs.table.enter_one.Goals.{else-cell-stamp-via-then-cell-stamp+else-cell-bound, else-cell-stamp-via-else-cell-stamp}

pub returns-clause-known : goal.returns-clause-known
returns-clause-known c i j w =
    let long = c.requires.cells.long in
    let names = c.requires.names in
    let worse : IsWorse c.args.stamp c.args.fact.now.bound (slice_index_or c.args.cells.now (c.args.fact.now.from * 64 + c.args.fact.now.to) empty_cell) =
    elim c.else-cell-stamp.branch [
      | else-cell-stamp-via-then-cell-stamp+else-cell-bound w ↦ let h = w.if-cell-bound.false in inr (grind (arith, ints))
      | else-cell-stamp-via-else-cell-stamp w ↦ inl w.if-cell-stamp.false
    ] in
    cells-set-as c.args.cells.now c.args.stamp c.args.fact.now (to_z w64 (of_z w64 c.from-bound.result)) i j w (omega (arith, ints, c.from-bound.ensures)) long names.from names.to worse
