-- What a fetch says: n bytes were handed out, or the file ends, or the fetch failed.
use Rattle.std.specs.Prelude.{◌≡◌, ℕ, ◌+◌, ◌-◌, ◌^◌, ◌≤◌, min, List, take, drop, length, Option}
use Rattle.rl_io.specs.Causes.{Rose}
use Rattle.rl_io.specs.Files.{Files, OnFile}
use Rattle.rl_io.specs.declared.shelf.Fetched.{Fetched}
use Rattle.rl_io.specs.declared.shelf.Fetched.TheVariants.{Got, End, Failed}

-- the first n bytes of the buffer, at least one, are the file's from this place on; the end is reported only there
abbrev pub FetchReads : Fetched → Option Files → List ℕ → ℕ → List ℕ → Type 0
FetchReads (Got n) told name place buf =
    (1 ≤ n) × (n ≤ length buf) × OnFile told name (λ file. (place + n ≤ length file) × (take n buf ≡ take n (drop place file)))
FetchReads End told name place buf = OnFile told name (λ file. length file ≤ place)
FetchReads Failed told name place buf = Unit {0}

-- the count of bytes that were handed out grows by these n, and by no other answer
abbrev pub FetchCounts : Fetched → ℕ → ℕ → Type 0
FetchCounts (Got n) before now = now ≡ min (before + n) (2 ^ 64 - 1)
FetchCounts End before now = now ≡ before
FetchCounts Failed before now = now ≡ before

-- a failure is reported only if the count of faults rose
abbrev pub FetchFails : Fetched → ℕ → ℕ → Type 0
FetchFails (Got n) before now = Unit {0}
FetchFails End before now = Unit {0}
FetchFails Failed before now = Rose before now
