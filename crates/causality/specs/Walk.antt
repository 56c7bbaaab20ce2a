-- The walk through the lists of a window, step by step. That it gives the rows of the window, or the first late value, is
-- proved.
use Rattle.std.specs.Prelude.{◌≡◌, ℕ, ◌+◌, ◌≤◌, Bool, nat_le, nat_lt, if◌then◌else◌, List, [], ◌∷◌, ◌++◌, map, Result, Ok, Err}
use Rattle.std.specs.List.{list_any, list_all}
use Rattle.rl_time.specs.declared.time.Time.{Time}
use Rattle.rl_time.specs.declared.time.Time.TheVariants.{At, Never}
use Rattle.func_table.specs.Table.{Row}
use Rattle.causality.specs.declared.fault.TabError.{TabError}
use Rattle.causality.specs.declared.fault.TabError.TheVariants as error
use Rattle.causality.specs.Window.{is_start, row_at}

-- the time is never, or at most w
abbrev pub IsWithin : ℕ → Time → Type 0
IsWithin w (At a) = a ≤ w
IsWithin w Never = Unit {0}

-- the time at this place of a window
abbrev pub window_time : ℕ → ℕ → Time
window_time w step = if nat_le step w then At step else Never

-- the time is at most y, or the first of the window that is greater
abbrev pub is_earliest : ℕ → ℕ → Time → Bool
is_earliest w y (At a) = nat_le a (y + 1)
is_earliest w y Never = nat_le w y

-- each of the times is so. Where the value is y, no list before this one in the walk has its row then; else some list has. Both
-- are proved.
abbrev pub is_first : ℕ → ℕ → List Time → Bool
is_first w y v = list_all (is_earliest w y) v

-- the rows after a list of which this is the value; or a late value
abbrev pub valued : ℕ → List Row → List Time → Time → Result (List Row) ℕ
valued w rows v Never = Ok rows
valued w rows v (At y) = if nat_lt 255 y then Err y else Ok (if is_first w y v then rows ++ row_at y v ∷ [] else rows)

abbrev pub visited : (List Time → Time) → ℕ → List Row → List Time → Result (List Row) ℕ
visited f w rows v = if list_any is_start v then valued w rows v (f v) else Ok rows

abbrev pub and_then : Result (List Row) ℕ → (List Row → Result (List Row) ℕ) → Result (List Row) ℕ
and_then (Ok rows) more = more rows
and_then (Err y) more = Err y

abbrev pub walked : (List Time → Time) → ℕ → List Row → List (List Time) → Result (List Row) ℕ
walked f w rows [] = Ok rows
walked f w rows (v ∷ vs) = and_then (visited f w rows v) (λ more. walked f w more vs)

-- the lists that begin with these times
abbrev pub behind : List Time → List (List Time) → List (List Time)
behind front vs = map (λ v. front ++ v) vs

-- what a call answers that leaves these rows, where the walk gives this
abbrev pub Gives : Result (List Row) ℕ → List Row → Result (Unit {0}) TabError → Type 0
Gives told rows (Ok u) = told ≡ Ok rows
Gives told rows (Err (error.TooLate y)) = told ≡ Err y
Gives told rows (Err error.TooWide) = ⊥
Gives told rows (Err error.TooManyRows) = ⊥
Gives told rows (Err error.NoMemory) = Unit {0}
