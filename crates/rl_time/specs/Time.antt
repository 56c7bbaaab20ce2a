-- Times, the four operators, and the level of a wire that rises at a time. Numbers have no bound here.
use Rattle.std.specs.Prelude.{ℕ, ◌+◌, ◌<◌, ◌^◌, Bool, false, nat_le, nat_lt, min, max, if◌then◌else◌}
use Rattle.rl_time.specs.declared.time.Time.{Time}
use Rattle.rl_time.specs.declared.time.Time.TheVariants.{At, Never}

-- min: the smaller of two times
abbrev pub time_min : Time → Time → Time
time_min (At a) (At b) = At (min a b)
time_min (At a) Never = At a
time_min Never b = b

-- max: the greater of two times
abbrev pub time_max : Time → Time → Time
time_max (At a) (At b) = At (max a b)
time_max (At a) Never = Never
time_max Never b = Never

-- lt: a where a is before b, else never
abbrev pub time_lt : Time → Time → Time
time_lt (At a) (At b) = if nat_lt a b then At a else Never
time_lt (At a) Never = At a
time_lt Never b = Never

-- inc: c cycles later
abbrev pub time_inc : Time → ℕ → Time
time_inc (At a) c = At (a + c)
time_inc Never c = Never

-- the time c cycles later is a number of 64 bits, or never
abbrev pub HasRoom : Time → ℕ → Type 0
HasRoom (At a) c = a + c < 2 ^ 64
HasRoom Never c = Unit {0}

-- a wire that rises at this time, and stays high, is high in this cycle
abbrev pub has_risen : Time → ℕ → Bool
has_risen (At a) cycle = nat_le a cycle
has_risen Never cycle = false
