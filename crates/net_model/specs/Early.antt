-- Times that are early enough for a sum of theirs and a span to stay within 64 bits.
use Rattle.std.specs.Prelude.{ℕ, ◌≤◌, List, All}
use Rattle.rl_time.specs.declared.time.Time.{Time}
use Rattle.rl_time.specs.declared.time.Time.TheVariants.{At, Never}

-- the time is never, or at most n
abbrev pub IsAtMost : ℕ → Time → Type 0
IsAtMost n (At a) = a ≤ n
IsAtMost n Never = Unit {0}

-- each time is never, or at most 1,000,000,000,000
abbrev pub AreEarly : List Time → Type 0
AreEarly x = All (IsAtMost 1000000000000) x
