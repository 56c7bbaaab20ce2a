-- The files that a command reads.
use Rattle.std.specs.Prelude.{◌≡◌, ℕ, ◌+◌, ◌<◌, ◌≤◌, List, [], ◌∷◌, length, take, slice_get, Option, Some}
use Rattle.rl_io.specs.Causes.{Rose}
use Rattle.rl_io.specs.Files.{Files, OnFile}
use Rattle.rl_flow.specs.Task.{Task, Sim, SimInOrder, Check, Compare, Big, Command}

-- the most bytes that each file of a task may have, in the order of the files
abbrev pub limits : Task → List ℕ
limits (Sim cycles times) = 16777216 ∷ []
limits (SimInOrder cycles times order) = 16777216 ∷ []
limits Check = 1048576 ∷ 1048576 ∷ 67108864 ∷ []
limits (Compare budget) = 1048576 ∷ 1048576 ∷ []
limits (Big n) = []
limits _ = 1048576 ∷ []

-- a file's name, and the most bytes that it may have
pub record Asked : Type 0 where
  pub name : List ℕ
  pub limit : ℕ

-- the files of these names, each with its limit
abbrev pub with_limits : List (List ℕ) → List ℕ → List Asked
with_limits [] limits = []
with_limits (name ∷ names) [] = []
with_limits (name ∷ names) (limit ∷ limits) = record { name = name; limit = limit } ∷ with_limits names limits

-- the files of a command, in order
abbrev pub asked : Command → List Asked
asked c = with_limits c.files (limits c.task)

-- a shelf: its files, where it exposes them, the faults under each name, and how many bytes it has given
pub record ShelfState : Type 0 where
  pub files : Option Files
  pub faults : List ℕ → ℕ
  pub given : ℕ

abbrev pub shelf_state : Option Files → (List ℕ → ℕ) → ℕ → ShelfState
shelf_state files faults given = record { files = files; faults = faults; given = given }

-- the text is within the file's limit, and is the file's, where the shelf exposes its files
abbrev pub IsTextOf : Option Files → Asked → List ℕ → Type 0
IsTextOf known file text = (length text ≤ file.limit) × OnFile known file.name (λ bytes. bytes ≡ text)

-- the texts are those of the files, in order
abbrev pub AreTextsOf : Option Files → List Asked → List (List ℕ) → Type 0
AreTextsOf known [] [] = Unit {0}
AreTextsOf known [] (text ∷ texts) = ⊥
AreTextsOf known (file ∷ files) [] = ⊥
AreTextsOf known (file ∷ files) (text ∷ texts) = IsTextOf known file text × AreTextsOf known files texts

-- each text is within its limit
abbrev pub AreWithin : List ℕ → List (List ℕ) → Type 0
AreWithin [] [] = Unit {0}
AreWithin [] (text ∷ texts) = ⊥
AreWithin (limit ∷ limits) [] = ⊥
AreWithin (limit ∷ limits) (text ∷ texts) = (length text ≤ limit) × AreWithin limits texts

-- the file at this place, from 0, is this one, and those before it have texts within their limits
pub record Reaches (known : Option Files) (files : List Asked) (place : ℕ) (file : Asked) : Type 0 where
  pub texts : List (List ℕ)
  pub before : AreTextsOf known (take place files) texts
  pub at : slice_get files place ≡ Some file

-- the file of this number, from 1, is longer than its limit, and those before it are not
pub record IsTooLong (known : Option Files) (files : List Asked) (number limit : ℕ) : Type 0 where
  pub place : ℕ
  pub file : Asked
  pub numbered : number ≡ place + 1
  pub reached : Reaches known files place file
  pub limit_is : limit ≡ file.limit
  pub longer : OnFile known file.name (λ bytes. limit < length bytes)

-- the faults under the name of the file of this number, from 1, rose, and those before it are not too long
pub record IsFaulty (before now : ShelfState) (files : List Asked) (number : ℕ) : Type 0 where
  pub place : ℕ
  pub file : Asked
  pub numbered : number ≡ place + 1
  pub reached : Reaches before.files files place file
  pub rose : Rose (before.faults file.name) (now.faults file.name)

-- one byte more than each limit, together
abbrev pub most_bytes : List Asked → ℕ
most_bytes [] = 0
most_bytes (file ∷ files) = file.limit + 1 + most_bytes files

-- the shelf gave at most one byte more than the limit of each of these files
abbrev pub GaveAtMost : ShelfState → ShelfState → List Asked → Type 0
GaveAtMost before now files = now.given ≤ before.given + most_bytes files
