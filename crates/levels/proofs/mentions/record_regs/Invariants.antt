use Rattle.levels.specs.Recorded.{AreRegsRecorded, IsKept}
use Rattle.levels.proofs.mentions.record_regs.Given as goal

abbrev pub invariant-loop-place : goal.invariant-loop-place
invariant-loop-place l = record {
  kept : IsKept l.fn.tally l.tally;
  recorded : AreRegsRecorded l.m l.starts l.tally l.place;
}
