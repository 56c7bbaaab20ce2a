-- A table of the least bounds of a leaf: a cell for each pair of 64 inputs, which counts where it has the leaf's stamp.
use Rattle.std.specs.Prelude.{◌≡◌, ℕ, ◌+◌, ◌*◌, ◌≤◌, ◌<◌, ℤ, pos, Bool, ◌&&◌, nat_eq, nat_lt, int_le, List, slice_index_or, length}
use Rattle.std.specs.List.{All}
use Rattle.refutation.specs.declared.item.Fact.{Fact}
use Rattle.tree_check.specs.declared.cell.Cell.{Cell}
use Rattle.tree_check.specs.Forms.{Known}

pub record Bounds : Type 0 where
  pub cells : List Cell
  pub stamp : ℕ

abbrev pub empty_cell : Cell
empty_cell = record { stamp = 0; bound = pos 0 }

-- the cell shows that a difference is at most w
abbrev pub cell_says : ℕ → ℤ → Cell → Bool
cell_says stamp w c = nat_eq c.stamp stamp && int_le c.bound w

-- what the cells of this stamp say
abbrev pub cells_say : List Cell → ℕ → Known
cells_say cells stamp i j w = nat_lt i 64 && nat_lt j 64 && cell_says stamp w (slice_index_or cells (i * 64 + j) empty_cell)

-- what the table says
abbrev pub known : Bounds → Known
known t = cells_say t.cells t.stamp

-- all pairs of inputs have a cell, whose stamp is at most this one
pub record AreCells (cells : List Cell) (stamp : ℕ) : Type 0 where
  pub long : length cells ≡ 4096
  pub older : All (λ c. c.stamp ≤ stamp) cells

-- the fact has a cell
pub record HasCell (f : Fact) : Type 0 where
  pub from : f.from < 64
  pub to : f.to < 64
