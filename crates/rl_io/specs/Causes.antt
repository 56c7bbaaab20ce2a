-- Counts that rise. A counter of 64 bits stays at its last value, 2 ^ 64 - 1.
use Rattle.std.specs.Prelude.{ℕ, ◌+◌, ◌-◌, ◌^◌, ◌≤◌, min}

-- a counter after n more
abbrev pub counted : ℕ → ℕ → ℕ
counted count n = min (count + n) (2 ^ 64 - 1)

-- the count rose, or is at its last value
abbrev pub Rose : ℕ → ℕ → Type 0
Rose before now = min (before + 1) (2 ^ 64 - 1) ≤ now

-- the count rose by more than n, or is at its last value
abbrev pub RoseBy : ℕ → ℕ → ℕ → Type 0
RoseBy n before now = min (before + n + 1) (2 ^ 64 - 1) ≤ now
