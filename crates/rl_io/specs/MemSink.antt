-- A sink in memory: what it took, and which of its calls are to fail.
use Rattle.std.specs.Prelude.{◌≡◌, ℕ, ◌-◌, ◌<◌, ◌≤◌, ◌⊎◌, ◌++◌, min, List, [], take, length, Contains}
use Rattle.rl_io.specs.Causes.{counted}
use Rattle.rl_io.specs.Sink.{SinkPlan}
use Rattle.rl_io.specs.declared.sink.Put.{Put}
use Rattle.rl_io.specs.declared.sink.Put.TheVariants.{Took, Failed}

-- the bytes taken, how many are taken at most and how many by one put, the numbers of the calls that are to fail, and how many calls were made and failed so far
pub record HeldBytes : Type 0 where
  pub written : List ℕ
  pub room : ℕ
  pub chunk : ℕ
  pub fails : List ℕ
  pub calls : ℕ
  pub faults : ℕ

-- what is true of every sink in memory; where no call is to fail, the first fault comes once the room is full
pub record IsHeldBytes (s : HeldBytes) : Type 0 where
  pub some_bytes : 1 ≤ s.chunk
  pub within : length s.written ≤ s.room
  pub quiet : s.fails ≡ [] → length s.written < s.room → s.faults ≡ 0

-- what no call changes
abbrev pub plan_of : HeldBytes → SinkPlan
plan_of s = record { room = s.room; fails = s.fails }

-- the next call, which has this number, is one that is to fail, or no room is left
abbrev pub IsToFail : HeldBytes → Type 0
IsToFail s = Contains s.fails (counted s.calls 1) ⊎ (length s.written ≡ s.room)

-- the bytes taken, after a put of a piece
abbrev pub written_after : List ℕ → List ℕ → Put → List ℕ
written_after written piece (Took n) = written ++ take n piece
written_after written piece Failed = written

-- the count of faults, after a put
abbrev pub faults_after : ℕ → Put → ℕ
faults_after faults (Took n) = faults
faults_after faults Failed = counted faults 1

-- the sink after a put: one more call, and the bytes that it took or the fault
abbrev pub after_put : HeldBytes → List ℕ → Put → HeldBytes
after_put s piece answer = record s { written = written_after s.written piece answer; calls = counted s.calls 1; faults = faults_after s.faults answer }

-- a put that doesn't fail takes this many bytes
abbrev pub Takes : Put → ℕ → Type 0
Takes (Took n) size = n ≡ size
Takes Failed size = Unit {0}

-- of a piece of this length, at most a chunk and at most the room that is left
abbrev pub taken_size : ℕ → HeldBytes → ℕ
taken_size len s = min (min len s.chunk) (s.room - length s.written)
