-- Statuses and the numbers with which the process ends.
use Rattle.std.specs.Prelude.{ℕ}
use Rattle.rl_flow.specs.declared.refusal.Refusal.{Refusal}
use Rattle.rl_flow.specs.declared.refusal.Refusal.TheVariants as why
use Rattle.rl_flow.specs.declared.status.Status.{Status}
use Rattle.rl_flow.specs.declared.status.Status.TheVariants as end
use Rattle.rl_flow.specs.declared.verdict.Verdict.{Verdict}
use Rattle.rl_flow.specs.declared.verdict.Verdict.TheVariants as verdict

abbrev pub code_of : Status → ℕ
code_of end.Done = 0
code_of end.No = 1
code_of end.Words = 2
code_of end.Refused = 3
code_of end.ReadFault = 4
code_of end.WriteFault = 5
code_of end.NoMemory = 6
code_of end.Undecided = 7

-- the status of a command that was answered
abbrev pub status_with : Verdict → Status
status_with verdict.Done = end.Done
status_with verdict.No = end.No
status_with verdict.Undecided = end.Undecided

-- the status of a command that was refused
abbrev pub status_of : Refusal → Status
status_of why.Words = end.Words
status_of (why.TooLong number limit) = end.Refused
status_of (why.Refused f) = end.Refused
status_of (why.ReadFault number) = end.ReadFault
status_of why.WriteFault = end.WriteFault
status_of why.NoMemory = end.NoMemory
