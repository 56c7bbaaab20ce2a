-- A path, and the pending no sides.
use Rattle.std.specs.Prelude.{ℕ, ◌≤◌, List, [], ◌∷◌, ◌++◌, length, take}
use Rattle.std.specs.List.{All}
use Rattle.refutation.specs.Cases.{Path}
use Rattle.tree_check.specs.Small.{IsSmall}
use Rattle.tree_check.specs.declared.later.Later.{Later}

-- the path of a side, of which the given path has the beginning
abbrev pub side_path : Path → Later → Path
side_path path l = take l.depth path ++ l.side ∷ []

-- the paths of the sides, the last first
abbrev pub sides : Path → List Later → List Path
sides path [] = []
sides path (l ∷ later) = sides path later ++ side_path path l ∷ []

-- the pending paths: this one, and those of the sides
abbrev pub pending : Path → List Later → List Path
pending path later = path ∷ sides path later

-- no side begins deeper than the next, and none past the end
abbrev pub IsNested : ℕ → List Later → ℕ → Type 0
IsNested low [] high = low ≤ high
IsNested low (l ∷ later) high = (low ≤ l.depth) × IsNested l.depth later high

pub record IsStack (path : Path) (later : List Later) : Type 0 where
  pub nested : IsNested 0 later (length path)
  pub small : All IsSmall path
  pub small_sides : All (λ l. IsSmall l.side) later
