-- Pressing: gaps between the numbers of a solution become at most 1,000,001.
use Rattle.std.specs.Prelude.{ℕ, pos, negsuc, ◌+◌, ◌-◌, ◌<◌, ◌≤ℤ◌, if◌then◌else◌, nat_lt, List, [], ◌∷◌}
use Rattle.std.specs.List.{AllByRecursion}
use Rattle.refutation.specs.declared.assumption.Assumption.{Assumption}

-- the assumption names inputs below n and its bound lies from -1,000,001 to 1,000,001
pub record IsNear (n : ℕ) (a : Assumption) : Type 0 where
  pub from : a.from < n
  pub to : a.to < n
  pub low : negsuc 1000000 ≤ℤ a.bound
  pub high : a.bound ≤ℤ pos 1000001

abbrev pub AreNear : ℕ → List Assumption → Type 0
AreNear n edges = AllByRecursion (IsNear n) edges

-- a number above the floor is lowered
abbrev pub pressed : ℕ → ℕ → ℕ → ℕ
pressed floor by y = if nat_lt floor y then y - by else y

-- how many numbers are above the floor
abbrev pub above : ℕ → List ℕ → ℕ
above floor [] = 0
above floor (y ∷ ys) = (if nat_lt floor y then 1 else 0) + above floor ys
