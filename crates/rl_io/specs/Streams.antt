-- The system's files and streams: what is counted of them. What they hold is not exposed.
use Rattle.std.specs.Prelude.{ℕ, Bool, true, false}
use Rattle.rl_io.specs.Causes.{counted}
use Rattle.rl_io.specs.declared.shelf.Fetched.{Fetched}
use Rattle.rl_io.specs.declared.shelf.Fetched.TheVariants.{Got, End, Failed}
use Rattle.rl_io.specs.declared.sink.Put.{Put}
use Rattle.rl_io.specs.declared.sink.Put.TheVariants as put
use Rattle.rl_io.specs.declared.system.Stream.{Stream}
use Rattle.rl_io.specs.declared.system.Stream.TheVariants as stream

-- how many fetches failed, under all names together, and how many bytes were given
pub record FileCounts : Type 0 where
  pub faults : ℕ
  pub given : ℕ

-- the counts after a fetch
abbrev pub after_fetch : FileCounts → Fetched → FileCounts
after_fetch s (Got n) = record { faults = s.faults; given = counted s.given n }
after_fetch s End = s
after_fetch s Failed = record { faults = counted s.faults 1; given = s.given }

-- which of the two streams it is
abbrev pub is_standard_error : Stream → Bool
is_standard_error (stream.Out o) = false
is_standard_error (stream.Err e) = true

-- whether it is standard error, and how many puts failed
pub record StreamCounts : Type 0 where
  pub is_error : Bool
  pub faults : ℕ

-- the counts after a put
abbrev pub after_put : StreamCounts → Put → StreamCounts
after_put s (put.Took n) = s
after_put s put.Failed = record { is_error = s.is_error; faults = counted s.faults 1 }
