-- How a run ends.
use Rattle.std.specs.Prelude.{◌≡◌, ◌⊎◌, ℕ, ◌<◌, List, length, take, Contains, Option, Some, None, IsSome, IsSomeAnd}
use Rattle.rl_io.specs.Causes.{Rose, RoseBy}
use Rattle.rl_io.specs.Files.{Files, OnFile, Adds}
use Rattle.rl_jobs.specs.declared.fault.Fault.{Fault}
use Rattle.rl_flow.specs.Task.{Task, Command}
use Rattle.rl_flow.specs.Asked.{Asked, ShelfState, AreTextsOf, IsTooLong, IsFaulty, GaveAtMost, asked}
use Rattle.rl_flow.specs.Answers.{IsText, MayHave, IsCause}
use Rattle.rl_flow.specs.Status.{status_of}
use Rattle.rl_flow.specs.Message.{line_of}
use Rattle.rl_flow.specs.declared.refusal.Refusal.{Refusal}
use Rattle.rl_flow.specs.declared.refusal.Refusal.TheVariants as why
use Rattle.rl_flow.specs.declared.status.Status.{Status}
use Rattle.rl_flow.specs.declared.status.Status.TheVariants as end
use Rattle.rl_flow.specs.declared.verdict.Verdict.{Verdict}
use Rattle.rl_flow.specs.declared.verdict.Verdict.TheVariants as verdict

-- the texts of the command's files have this property: of a shelf that doesn't expose its files, some texts within their limits
abbrev pub OnTexts : Option Files → Command → (List (List ℕ) → Type 0) → Type 0
OnTexts known c P = (texts : List (List ℕ)) × AreTextsOf known (asked c) texts × P texts

-- ---- what is written

-- the sink gained the whole text that the command makes of its files, with this verdict
abbrev pub Answers : Option Files → Option (List ℕ) → Option (List ℕ) → Verdict → Command → Type 0
Answers known out out' v c = (answer : List ℕ) × OnTexts known c (λ texts. IsText c.task v texts answer) × Adds out out' answer

-- the sink gained a proper prefix of it
abbrev pub WritesPart : Option Files → Option (List ℕ) → Option (List ℕ) → Command → Type 0
WritesPart known out out' c =
    (v : Verdict) × (answer : List ℕ) × OnTexts known c (λ texts. IsText c.task v texts answer)
    × ((n : ℕ) × (n < length answer) × Adds out out' (take n answer))

-- a line was put, or, where the sink's faults rose, a proper prefix of it
abbrev pub PutsLine : Option (List ℕ) → Option (List ℕ) → ℕ → ℕ → List ℕ → Type 0
PutsLine err err' faults faults' line =
    Adds err err' line ⊎ (Rose faults faults' × ((n : ℕ) × (n < length line) × Adds err err' (take n line)))

-- what a refusal leaves in standard output: nothing new, or under a write fault a proper prefix of the text
abbrev pub Leaves : Option Command → Option Files → Option (List ℕ) → Option (List ℕ) → Refusal → Type 0
Leaves command known out out' why.WriteFault = IsSomeAnd command (WritesPart known out out')
Leaves command known out out' _ = out' ≡ out

-- what each status leaves in standard output: the whole text, a proper prefix of it, or nothing new
abbrev pub Wrote : Option Command → Option Files → Option (List ℕ) → Option (List ℕ) → Status → Type 0
Wrote command known out out' end.Done = IsSomeAnd command (Answers known out out' verdict.Done)
Wrote command known out out' end.No = IsSomeAnd command (Answers known out out' verdict.No)
Wrote command known out out' end.Undecided = IsSomeAnd command (Answers known out out' verdict.Undecided)
Wrote command known out out' end.WriteFault = IsSomeAnd command (WritesPart known out out')
Wrote command known out out' _ = out' ≡ out

-- a status under which standard output has nothing new
abbrev pub WritesNothing : Status → Type 0
WritesNothing end.Words = Unit {0}
WritesNothing end.Refused = Unit {0}
WritesNothing end.ReadFault = Unit {0}
WritesNothing end.NoMemory = Unit {0}
WritesNothing _ = ⊥

-- a status that answers the command: 0, 1 or 7
abbrev pub IsAnswer : Status → Type 0
IsAnswer end.Done = Unit {0}
IsAnswer end.No = Unit {0}
IsAnswer end.Undecided = Unit {0}
IsAnswer _ = ⊥

-- one of these that the task may have
abbrev pub IsAnswerOf : Task → Status → Type 0
IsAnswerOf task end.Done = MayHave task verdict.Done
IsAnswerOf task end.No = MayHave task verdict.No
IsAnswerOf task end.Undecided = MayHave task verdict.Undecided
IsAnswerOf task _ = ⊥

-- ---- causes

-- the texts of the command's files have this fault
abbrev pub IsRefused : Option Files → Command → Fault → Type 0
IsRefused known c f = OnTexts known c (λ texts. IsCause c.task texts f)

-- a file is too long: the shelf gave more bytes than its limit, and was asked for no later file
abbrev pub IsLong : ShelfState → ShelfState → List Asked → ℕ → ℕ → Type 0
IsLong before now files number limit =
    IsTooLong before.files files number limit × RoseBy limit before.given now.given × GaveAtMost before now (take number files)

-- a file could not be read, and the shelf was asked for no later file
abbrev pub IsUnread : ShelfState → ShelfState → List Asked → ℕ → Type 0
IsUnread before now files number = IsFaulty before now files number × GaveAtMost before now (take number files)

-- why the files were not loaded
abbrev pub AreUnloaded : ShelfState → ShelfState → List Asked → Refusal → Type 0
AreUnloaded before now files (why.TooLong number limit) = IsLong before now files number limit
AreUnloaded before now files (why.ReadFault number) = IsUnread before now files number
AreUnloaded before now files why.NoMemory = Unit {0}
AreUnloaded before now files _ = ⊥

-- why the file of this number was not loaded
abbrev pub IsUnloaded : ShelfState → ShelfState → ℕ → Asked → Refusal → Type 0
IsUnloaded before now number file (why.TooLong n limit) =
    (n ≡ number) × (limit ≡ file.limit) × OnFile before.files file.name (λ bytes. limit < length bytes) × RoseBy limit before.given now.given
IsUnloaded before now number file (why.ReadFault n) = (n ≡ number) × Rose (before.faults file.name) (now.faults file.name)
IsUnloaded before now number file why.NoMemory = Unit {0}
IsUnloaded before now number file _ = ⊥

-- the cause of each refusal; failed and failed' are the faults of standard output
abbrev pub HasCause : Option Command → ShelfState → ShelfState → ℕ → ℕ → Refusal → Type 0
HasCause command before now failed failed' why.Words = command ≡ None
HasCause command before now failed failed' (why.TooLong number limit) = IsSomeAnd command (λ c. IsLong before now (asked c) number limit)
HasCause command before now failed failed' (why.Refused f) = IsSomeAnd command (λ c. IsRefused before.files c f)
HasCause command before now failed failed' (why.ReadFault number) = IsSomeAnd command (λ c. IsUnread before now (asked c) number)
HasCause command before now failed failed' why.WriteFault = IsSome command × Rose failed failed'
HasCause command before now failed failed' why.NoMemory = IsSome command

-- a file of the command is too long, or the texts of its files are refused
abbrev pub IsFaulted : ShelfState → ShelfState → Command → Type 0
IsFaulted before now c =
    ((number : ℕ) × (limit : ℕ) × IsLong before now (asked c) number limit) ⊎ ((f : Fault) × IsRefused before.files c f)

-- what each status says: of the words, of the files that they name, and of the faults that rose
abbrev pub Says : Option Command → ShelfState → ShelfState → ℕ → ℕ → Status → Type 0
Says command before now failed failed' end.Done = IsSomeAnd command (λ c. MayHave c.task verdict.Done)
Says command before now failed failed' end.No = IsSomeAnd command (λ c. MayHave c.task verdict.No)
Says command before now failed failed' end.Undecided = IsSomeAnd command (λ c. MayHave c.task verdict.Undecided)
Says command before now failed failed' end.Words = command ≡ None
Says command before now failed failed' end.Refused = IsSomeAnd command (IsFaulted before now)
Says command before now failed failed' end.ReadFault = IsSomeAnd command (λ c. (number : ℕ) × IsUnread before now (asked c) number)
Says command before now failed failed' end.WriteFault = IsSome command × Rose failed failed'
Says command before now failed failed' end.NoMemory = IsSome command

-- this refusal, or one that may come in its place: a file could not be read, or memory ran out
abbrev pub IsOrGivesWay : Refusal → Refusal → Type 0
IsOrGivesWay expected refusal = (refusal ≡ expected) ⊎ (status_of refusal ≡ end.ReadFault) ⊎ (status_of refusal ≡ end.NoMemory)

-- the run ended with the status of this refusal, and put its line to standard error
abbrev pub EndsBy : Status → Option (List ℕ) → Option (List ℕ) → ℕ → ℕ → Refusal → Type 0
EndsBy status err err' faults faults' refusal = (status ≡ status_of refusal) × PutsLine err err' faults faults' (line_of refusal)

-- the faults under none of these names rose
abbrev pub NoneRose : (List ℕ → ℕ) → (List ℕ → ℕ) → List (List ℕ) → Type 0
NoneRose before now names = (name : List ℕ) → Contains names name → Rose (before name) (now name) → ⊥

-- the most bytes that the shelf may give for a command: one more than the limit of each of its files, and none for words that are none
abbrev pub GaveFor : Option Command → ShelfState → ShelfState → Type 0
GaveFor None before now = now.given ≡ before.given
GaveFor (Some c) before now = GaveAtMost before now (asked c)
