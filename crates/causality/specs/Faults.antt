-- What a fault of rows says. Its numbers count from 1, and the places here from 0.
use Rattle.std.specs.Prelude.{◌≡◌, ◌≢◌, ◌<◌, ℕ, suc, ◌+◌, Bool, false, IsTrue, if◌then◌else◌, List, take, Some, slice_get}
use Rattle.std.specs.List.{list_any, AllByRecursion}
use Rattle.func_table.specs.Table.{Row}
use Rattle.func_table.specs.Rules.{IsUpTo}
use Rattle.func_table.specs.Sound.{is_zero, IsInOrder, Conflict, AreSound}
use Rattle.causality.specs.declared.fault.RowFault.{RowFault}
use Rattle.causality.specs.declared.fault.RowFault.TheVariants as fault

-- no entry of the row is 0
abbrev pub HasNoZero : Row → Type 0
HasNoZero r = list_any is_zero r.entries ≡ false

-- some entry of the row is 0, and at this place is its first entry that is greater than its output
pub record IsAcausalAt (k : ℕ) (r : Row) : Type 0 where
  pub some_zero : IsTrue (list_any is_zero r.entries)
  pub entry : ℕ
  pub at : slice_get r.entries k ≡ Some (Some entry)
  pub greater : r.out < entry
  pub before : AllByRecursion (IsUpTo r.out) (take k r.entries)

-- the row at place i is of this kind, and all rows before it are in order
pub record IsFirst (rows : List Row) (i : ℕ) (Kind : Row → Type 0) : Type 0 where
  pub row : Row
  pub at : slice_get rows i ≡ Some row
  pub is : Kind row
  pub before : AllByRecursion IsInOrder (take i rows)

-- All rows are in order, and those at places i and j are the first that match the same times: no two rows before that at
-- place j do, and none before that at place i does with it. These two are of this kind.
pub record IsFirstPair (rows : List Row) (i j : ℕ) (Kind : Row → Row → Type 0) : Type 0 where
  pub in_order : AllByRecursion IsInOrder rows
  pub earlier : Row
  pub later : Row
  pub less : i < j
  pub earlier_at : slice_get rows i ≡ Some earlier
  pub later_at : slice_get rows j ≡ Some later
  pub conflict : Conflict earlier later
  pub is : Kind earlier later
  pub before : AreSound (take j rows)
  pub first : (k : ℕ) (r : Row) → k < i → slice_get rows k ≡ Some r → Conflict r later → ⊥

-- the first fault of the rows
abbrev pub IsRowFault : List Row → RowFault → Type 0
IsRowFault rows (fault.NoZero (suc i)) = IsFirst rows i HasNoZero
IsRowFault rows (fault.Acausal (suc i) (suc k)) = IsFirst rows i (IsAcausalAt k)
IsRowFault rows (fault.Same (suc i) (suc j)) = IsFirstPair rows i j (λ r s. r ≡ s)
IsRowFault rows (fault.Conflict (suc i) (suc j)) = IsFirstPair rows i j (λ r s. r ≢ s)
IsRowFault rows _ = ⊥

-- the fault of one row that isn't in order, whose number is n
abbrev pub IsOrderFault : Row → ℕ → RowFault → Type 0
IsOrderFault r n (fault.NoZero m) = (m ≡ n) × HasNoZero r
IsOrderFault r n (fault.Acausal m (suc k)) = (m ≡ n) × IsAcausalAt k r
IsOrderFault r n _ = ⊥

-- the fault of two rows that match the same times, at places i and j
abbrev pub pair_fault : ℕ → ℕ → Bool → RowFault
pair_fault i j are_same = if are_same then fault.Same (i + 1) (j + 1) else fault.Conflict (i + 1) (j + 1)
