-- A shelf in memory: its files, and which of its calls are to fail.
use Rattle.std.specs.Prelude.{◌≡◌, ℕ, ◌+◌, ◌-◌, ◌^◌, ◌<◌, ◌≤◌, ◌⊎◌, min, if◌then◌else◌, nat_le, List, [], ◌∷◌, All, Contains, IsNone, is_some}
use Rattle.rl_io.specs.Causes.{counted}
use Rattle.rl_io.specs.Files.{Files, AreDistinct, file_under}
use Rattle.rl_io.specs.declared.shelf.Fetched.{Fetched}
use Rattle.rl_io.specs.declared.shelf.Fetched.TheVariants.{Got, End, Failed}

-- the files, the most bytes that one fetch gives, the numbers of the calls that are to fail, and how many calls were made and bytes given so far
pub record HeldFiles : Type 0 where
  pub files : Files
  pub chunk : ℕ
  pub fails : List ℕ
  pub calls : ℕ
  pub given : ℕ

-- what is true of every shelf in memory
pub record IsHeldFiles (s : HeldFiles) : Type 0 where
  pub some_bytes : 1 ≤ s.chunk
  pub distinct : AreDistinct s.files
  pub early : All (λ f. f < 2 ^ 64 - 1) s.fails

-- how many of the numbers are at most this one
abbrev pub count_upto : ℕ → List ℕ → ℕ
count_upto calls [] = 0
count_upto calls (f ∷ fs) = (if nat_le f calls then 1 else 0) + count_upto calls fs

-- how often a fetch of a name has failed after some calls: by the calls' numbers where a file has the name, else in every call
abbrev pub mem_faults : Files → List ℕ → ℕ → List ℕ → ℕ
mem_faults files fails calls name = if is_some (file_under name files) then count_upto calls fails else calls

-- the same of a shelf
abbrev pub faults_under : HeldFiles → List ℕ → ℕ
faults_under s name = mem_faults s.files s.fails s.calls name

-- the next call, which has this number, is one that is to fail, or no file has the name
abbrev pub IsToFail : HeldFiles → List ℕ → Type 0
IsToFail s name = Contains s.fails (counted s.calls 1) ⊎ IsNone (file_under name s.files)

-- the count of bytes that were given, after a fetch
abbrev pub given_after : ℕ → Fetched → ℕ
given_after given (Got n) = counted given n
given_after given End = given
given_after given Failed = given

-- the shelf after a fetch: one more call, and the bytes that it gave
abbrev pub after_fetch : HeldFiles → Fetched → HeldFiles
after_fetch s answer = record s { calls = counted s.calls 1; given = given_after s.given answer }

-- a fetch that doesn't fail gives this many bytes, and reports the end if that is none
abbrev pub Gives : Fetched → ℕ → Type 0
Gives (Got n) size = n ≡ size
Gives End size = size ≡ 0
Gives Failed size = Unit {0}

-- of a file of this length, from a place on, at most a chunk and at most what the buffer has room for
abbrev pub piece_size : ℕ → ℕ → ℕ → ℕ → ℕ
piece_size len place chunk room = min (min (len - place) chunk) room
