-- Rows in order, compared place by place.
use Rattle.std.specs.Prelude.{ℕ, Bool, true, false, ◌==◌, nat_le, nat_lt, if◌then◌else◌, List, zip, Option, Some, None}
use Rattle.std.specs.List.{list_all}
use Rattle.func_table.specs.Table.{Row}

-- the entry is a number greater than this
abbrev pub is_greater : ℕ → Option ℕ → Bool
is_greater y (Some e) = nat_lt y e
is_greater y None = false

-- whether some time matches an entry of a row with the output y, and an entry of a row with no smaller output
abbrev pub agree : ℕ → Option ℕ → Option ℕ → Bool
agree y (Some a) (Some b) = a == b
agree y (Some a) None = false
agree y None (Some b) = nat_lt y b
agree y None None = true

abbrev pub entries_agree : ℕ → List (Option ℕ) → List (Option ℕ) → Bool
entries_agree y first second = list_all (λ p. agree y p.0 p.1) (zip first second)

-- of two rows of as many entries, the row with the smaller output first
abbrev pub places_agree : Row → Row → Bool
places_agree r s = if nat_le r.out s.out then entries_agree r.out r.entries s.entries else entries_agree s.out s.entries r.entries
