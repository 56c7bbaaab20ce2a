-- Assumptions on differences: when they can be met, what they imply, and their solutions.
use Rattle.std.specs.Prelude.{◌≡◌, ℕ, ℤ, pos, ◌-ℤ◌, ◌≤ℤ◌, ◌≤◌, ◌<◌, ◌++◌, true, List, [], ◌∷◌, length, get_or, Option, Some, None}
use Rattle.refutation.specs.declared.assumption.Assumption.{Assumption}
use Rattle.refutation.specs.Path.{MeetsAll, assumption, runs, sum_of, is_negative}

-- how many inputs there are, and the assumptions in the order in which they were added
pub record System : Type 0 where
  pub inputs : ℕ
  pub assumptions : List Assumption

-- with x_i - x_j <= w as the last assumption
abbrev pub more : List Assumption → ℕ → ℕ → ℤ → List Assumption
more edges i j w = edges ++ assumption i j w ∷ []

-- some integers meet all of them
abbrev pub CanBeMet : List Assumption → Type 0
CanBeMet edges = (x : ℕ → ℤ) × MeetsAll x edges

-- no chain from an input to itself has a negative sum
abbrev pub HasNoNegativeCycle : List Assumption → Type 0
HasNoNegativeCycle edges = (chain : List ℕ) → is_negative edges chain ≡ true → ⊥

-- all integers that meet them have x_i - x_j <= w
abbrev pub Implies : List Assumption → ℕ → ℕ → ℤ → Type 0
Implies edges i j w = (x : ℕ → ℤ) → MeetsAll x edges → (x i -ℤ x j) ≤ℤ w

-- the least bound on x_i - x_j that they imply, or that they imply none
abbrev pub IsLeast : List Assumption → ℕ → ℕ → Option ℤ → Type 0
IsLeast edges i j None = (w : ℤ) → Implies edges i j w → ⊥
IsLeast edges i j (Some w) = Implies edges i j w × ((v : ℤ) → Implies edges i j v → w ≤ℤ v)

-- the sum of a shortest chain from i to j, or that there is no chain
abbrev pub IsShortest : List Assumption → ℕ → ℕ → Option ℤ → Type 0
IsShortest edges i j None = (chain : List ℕ) → runs edges i j chain ≡ true → ⊥
IsShortest edges i j (Some w) = ((chain : List ℕ) × (runs edges i j chain ≡ true) × (sum_of edges chain ≡ w))
    × ((chain : List ℕ) → runs edges i j chain ≡ true → w ≤ℤ sum_of edges chain)

-- the list as a number for each input
abbrev pub integers : List ℕ → ℕ → ℤ
integers ys k = pos (get_or ys k 0)

-- a number for each of n inputs: they meet the assumptions, the least is 0, and none is greater than 63,000,063
pub record IsSolution (n : ℕ) (edges : List Assumption) (ys : List ℕ) : Type 0 where
  pub long : length ys ≡ n
  pub meets : MeetsAll (integers ys) edges
  pub zero : (k : ℕ) × (k < n) × (get_or ys k 0 ≡ 0)
  pub small : (k : ℕ) → k < n → get_or ys k 0 ≤ 63000063
