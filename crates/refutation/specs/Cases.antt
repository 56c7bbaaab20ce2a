-- The paths of a tree whose items are in preorder.
use Rattle.std.specs.Prelude.{ℕ, ℤ, ◌-ℤ◌, neg_ℤ, pos, ◌⊎◌, List, [], ◌∷◌, ◌++◌}
use Rattle.refutation.specs.declared.assumption.Assumption.{Assumption}
use Rattle.refutation.specs.declared.item.Item.{Item}
use Rattle.refutation.specs.declared.item.Item.TheVariants as item
use Rattle.refutation.specs.Path.{assumption}

abbrev pub Path : Type 0
Path = List Assumption

-- the path of the yes side of a split: x_i - x_j <= w is assumed
abbrev pub yes_side : Path → ℕ → ℕ → ℤ → Path
yes_side path i j w = path ++ assumption i j w ∷ []

-- the path of its no side: x_j - x_i <= -w - 1 is assumed
abbrev pub no_side : Path → ℕ → ℕ → ℤ → Path
no_side path i j w = path ++ assumption j i (neg_ℤ w -ℤ pos 1) ∷ []

-- the paths of the two subtrees below an item on this path; an item that is no split has none
abbrev pub below : Path → Item → List Path
below path (item.Split i j w) = yes_side path i j w ∷ no_side path i j w ∷ []
below path (item.Leaf facts) = []
below path (item.Closed chain) = []
below path item.Unsettled = []

-- the items are whole trees in preorder, one for each of these paths, and P holds of each item on its path
abbrev pub EachOnPath : (Path → Item → Type 0) → List Path → List Item → Type 0
EachOnPath P [] [] = Unit {0}
EachOnPath P [] (item ∷ items) = ⊥
EachOnPath P (path ∷ paths) [] = ⊥
EachOnPath P (path ∷ paths) (item ∷ items) = P path item × EachOnPath P (below path item ++ paths) items

-- P holds of one of the items on its path
abbrev pub OneOnPath : (Path → Item → Type 0) → List Path → List Item → Type 0
OneOnPath P [] items = ⊥
OneOnPath P (path ∷ paths) [] = ⊥
OneOnPath P (path ∷ paths) (item ∷ items) = P path item ⊎ OneOnPath P (below path item ++ paths) items
