use Rattle.std.proofs.Common.{◌≡◌, length}
use Rattle.levels.specs.Recorded.{AreAssignsRecorded}
use Rattle.levels.proofs.mentions.record_assigns.Given as goal

abbrev pub invariant-loop-item : goal.invariant-loop-item
invariant-loop-item l = record {
  count : length l.tally.counts ≡ length l.fn.tally.counts;
  recorded : AreAssignsRecorded l.m l.starts l.tally l.item;
}
