-- A stream of states, each of which gives a number: a linear congruential generator.
use Rattle.std.specs.Prelude.{ℕ, zero, suc, ◌+◌, ◌*◌, ◌/◌, ◌%◌}

-- the state after this one
unfoldable pub next_state : ℕ → ℕ
next_state s = (s * 1103515245 + 12345) % 2147483648

-- the state that comes so many states after this one
abbrev pub state : ℕ → ℕ → ℕ
state s zero = s
state s (suc k) = next_state (state s k)

-- the number below m that a state gives, by its high bits
abbrev pub number_below : ℕ → ℕ → ℕ
number_below m s = s / 65536 % m

-- draw k, from 0, of the stream that begins after state s: a number below m
abbrev pub draw : ℕ → ℕ → ℕ → ℕ
draw s k m = number_below m (state s (suc k))
