-- Assumptions on the differences of the inputs, and what chains of them give. The bounds are integers.
use Rattle.std.specs.Prelude.{ℕ, ℤ, pos, negsuc, ◌+ℤ◌, ◌-ℤ◌, ◌≤ℤ◌, Bool, false, ◌&&◌, nat_eq, nat_lt, int_le, List, [], ◌∷◌, length, slice_index_or}
use Rattle.std.specs.List.{AllByRecursion}
use Rattle.refutation.specs.declared.assumption.Assumption.{Assumption}

-- x_i - x_j <= w
abbrev pub assumption : ℕ → ℕ → ℤ → Assumption
assumption i j w = record { from = i; to = j; bound = w }

-- the integers x meet the assumption
abbrev pub Meets : (ℕ → ℤ) → Assumption → Type 0
Meets x a = (x a.from -ℤ x a.to) ≤ℤ a.bound

abbrev pub MeetsAll : (ℕ → ℤ) → List Assumption → Type 0
MeetsAll x path = AllByRecursion (Meets x) path

-- the assumption of this number. Past the end, where no chain may go, it is one that always holds
abbrev pub at : List Assumption → ℕ → Assumption
at path k = slice_index_or path k (assumption 0 0 (pos 0))

-- the chain runs from i to j: each of its assumptions is on the path, and begins where the one before it ends
abbrev pub runs : List Assumption → ℕ → ℕ → List ℕ → Bool
runs path i j [] = nat_eq i j
runs path i j (k ∷ chain) = nat_lt k (length path) && nat_eq (at path k).from i && runs path (at path k).to j chain

-- the sum of its bounds
abbrev pub sum_of : List Assumption → List ℕ → ℤ
sum_of path [] = pos 0
sum_of path (k ∷ chain) = (at path k).bound +ℤ sum_of path chain

-- the chain shows that x_i - x_j <= w
abbrev pub shows : List Assumption → List ℕ → ℕ → ℕ → ℤ → Bool
shows path chain i j w = runs path i j chain && int_le (sum_of path chain) w

-- the chain runs from an input to itself, with a negative sum
abbrev pub is_negative : List Assumption → List ℕ → Bool
is_negative path [] = false
is_negative path (k ∷ chain) = let i = (at path k).from in shows path (k ∷ chain) i i (negsuc 0)
