-- What a put says: n bytes were taken, or the put failed.
use Rattle.std.specs.Prelude.{◌≡◌, ℕ, ◌≤◌, List, take, length, Option}
use Rattle.rl_io.specs.Causes.{Rose}
use Rattle.rl_io.specs.Files.{Adds}
use Rattle.rl_io.specs.declared.sink.Put.{Put}
use Rattle.rl_io.specs.declared.sink.Put.TheVariants.{Took, Failed}

-- the first n bytes of the piece, at least one, were added, and none by a put that failed
abbrev pub PutAdds : Put → List ℕ → Option (List ℕ) → Option (List ℕ) → Type 0
PutAdds (Took n) piece before now = (1 ≤ n) × (n ≤ length piece) × Adds before now (take n piece)
PutAdds Failed piece before now = now ≡ before

-- a failure is reported only if the count of faults rose
abbrev pub PutFails : Put → ℕ → ℕ → Type 0
PutFails (Took n) before now = Unit {0}
PutFails Failed before now = Rose before now

-- what stays as it is over all puts of a sink that exposes it: how many bytes it takes, and the numbers of the puts that are to fail
pub record SinkPlan : Type 0 where
  pub room : ℕ
  pub fails : List ℕ
