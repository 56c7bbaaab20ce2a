-- The facts of a leaf: of all facts that were derived, the one with the least bound for each pair of inputs.
use Rattle.std.specs.Prelude.{◌≡◌, ℕ, ℤ, pos, ◌+◌, ◌*◌, ◌<◌, ◌≤◌, ◌≤ℤ◌, List, [], ◌∷◌, length, slice_index_or, Option, Some, None}
use Rattle.std.specs.List.{All}
use Rattle.refutation.specs.declared.item.Fact.{Fact}
use Rattle.refutation.specs.Cases.{Path}
use Rattle.tree_check.specs.Valid.{listed}
use Rattle.case_split.specs.Decided.{AreRight}
use Rattle.case_split.specs.Task.{IsFact}

-- the fact at a place
abbrev pub fact_at : List Fact → ℕ → Fact
fact_at facts place = slice_index_or facts place (record { from = 0; to = 0; bound = pos 0; chain = [] })

-- the fact at a place is on x_i - x_j
pub record IsOn (facts : List Fact) (i j place : ℕ) : Type 0 where
  pub from : (fact_at facts place).from ≡ i
  pub to : (fact_at facts place).to ≡ j

-- of the first k facts on x_i - x_j, one with the least bound is at this place
pub record IsLeastPlace (facts : List Fact) (k i j place : ℕ) : Type 0 where
  pub before : place < k
  pub on : IsOn facts i j place
  pub least : (other : ℕ) → other < k → IsOn facts i j other → (fact_at facts place).bound ≤ℤ (fact_at facts other).bound

-- that place, or none where none of them is on x_i - x_j
abbrev pub IsLeastOf : List Fact → ℕ → ℕ → ℕ → Option ℕ → Type 0
IsLeastOf facts k i j None = (other : ℕ) → other < k → IsOn facts i j other → ⊥
IsLeastOf facts k i j (Some place) = IsLeastPlace facts k i j place

-- the cell of a pair of inputs
abbrev pub cell_at : List (Option ℕ) → ℕ → ℕ → Option ℕ
cell_at cells i j = slice_index_or cells (i * 64 + j) None

-- a cell for each pair of n inputs, with the place of the least of the first k facts on their difference
pub record AreLeastPlaces (n : ℕ) (facts : List Fact) (k : ℕ) (cells : List (Option ℕ)) : Type 0 where
  pub long : length cells ≡ n * 64
  pub before : (cell place : ℕ) → slice_index_or cells cell None ≡ Some place → place < k
  pub least : (i j : ℕ) → i < n → j < 64 → IsLeastOf facts k i j (cell_at cells i j)

-- the facts at the places in the cells, in order
abbrev pub facts_in : List Fact → List (Option ℕ) → List Fact
facts_in facts [] = []
facts_in facts (None ∷ cells) = facts_in facts cells
facts_in facts (Some place ∷ cells) = fact_at facts place ∷ facts_in facts cells

-- at most 4,096 of the facts of n inputs, which say what all of them say
pub record AreGathered (n : ℕ) (facts gathered : List Fact) : Type 0 where
  pub same : (i j : ℕ) (w : ℤ) → listed gathered i j w ≡ listed facts i j w
  pub right : (path : Path) → AreRight path facts → AreRight path gathered
  pub are_facts : All (IsFact n) gathered
  pub few : length gathered ≤ 4096
