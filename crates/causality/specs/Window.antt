-- The table of a function of times within a window: the lists of times up to w, and the rows that they give.
use Rattle.std.specs.Prelude.{◌≡◌, ◌<◌, ◌≤◌, ◌^◌, ℕ, zero, suc, ◌+◌, Bool, true, false, ◌&&◌, ◌==◌, nat_le, nat_lt, if◌then◌else◌, List, [], ◌∷◌, ◌++◌, length, map, fold, Option, Some, None}
use Rattle.std.specs.List.{list_any, filter, find, flat_map, range_with_len}
use Rattle.rl_time.specs.declared.time.Time.{Time}
use Rattle.rl_time.specs.declared.time.Time.TheVariants.{At, Never}
use Rattle.func_table.specs.Table.{Row}
use Rattle.causality.specs.declared.fault.TabError.{TabError}
use Rattle.causality.specs.declared.fault.TabError.TheVariants as error

-- the times of a window: the numbers up to w in order, and then never
abbrev pub window_times : ℕ → List Time
window_times w = map At (range_with_len 0 (w + 1)) ++ Never ∷ []

-- all lists of n such times, the first time slowest
abbrev pub time_lists : ℕ → ℕ → List (List Time)
time_lists w zero = [] ∷ []
time_lists w (suc n) = flat_map (λ a. map (λ v. a ∷ v) (time_lists w n)) (window_times w)

abbrev pub is_start : Time → Bool
is_start (At a) = a == 0
is_start Never = false

-- the lists of the window, in the order of the walk: those of which the least time is 0, which is where some time is 0
abbrev pub window_lists : ℕ → ℕ → List (List Time)
window_lists w n = filter (list_any is_start) (time_lists w n)

-- ---- the rows

-- the entry for this time in a row of output y
abbrev pub entry_at : ℕ → Time → Option ℕ
entry_at y (At a) = if nat_le a y then Some a else None
entry_at y Never = None

abbrev pub row_at : ℕ → List Time → Row
row_at y v = record { entries = map (entry_at y) v; out = y }

-- the row of a list of times at which the value is a number; there is none where it is never
abbrev pub rows_at : Time → List Time → List Row
rows_at (At y) v = row_at y v ∷ []
rows_at Never v = []

abbrev pub same_entry : Option ℕ → Option ℕ → Bool
same_entry (Some a) (Some b) = a == b
same_entry None None = true
same_entry _ _ = false

abbrev pub same_entries : List (Option ℕ) → List (Option ℕ) → Bool
same_entries [] [] = true
same_entries (a ∷ es) (b ∷ fs) = same_entry a b && same_entries es fs
same_entries _ _ = false

abbrev pub same_row : Row → Row → Bool
same_row r s = r.out == s.out && same_entries r.entries s.entries

-- a row more, which isn't repeated
abbrev pub with_row : List Row → Row → List Row
with_row rows r = if list_any (same_row r) rows then rows else rows ++ r ∷ []

-- the rows of the function f of n times within the window, in the order of the walk, each once
abbrev pub window_rows : (List Time → Time) → ℕ → ℕ → List Row
window_rows f w n = fold with_row [] (flat_map (λ v. rows_at (f v) v) (window_lists w n))

-- ---- what a table can't hold

-- the value is a number that no row can have
abbrev pub is_late : Time → Bool
is_late (At y) = nat_lt 255 y
is_late Never = false

-- the first such value of the walk
abbrev pub first_late : (List Time → Time) → ℕ → ℕ → Option Time
first_late f w n = find is_late (map f (window_lists w n))

-- there are at most 65,536 lists of the window's times, and none of the values is late
pub record IsInReach (f : List Time → Time) (w n : ℕ) : Type 0 where
  pub few_lists : (w + 2) ^ n ≤ 65536
  pub none_late : first_late f w n ≡ None

-- why the function of n times has no table
abbrev pub IsCause : (List Time → Time) → ℕ → ℕ → TabError → Type 0
IsCause f w n error.TooWide = 65536 < (w + 2) ^ n
IsCause f w n (error.TooLate y) = ((w + 2) ^ n ≤ 65536) × (first_late f w n ≡ Some (At y))
IsCause f w n error.TooManyRows = IsInReach f w n × (256 < length (window_rows f w n))
IsCause f w n error.NoMemory = Unit {0}
