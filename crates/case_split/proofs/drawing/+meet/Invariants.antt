use Rattle.std.proofs.Common.{length}
use Rattle.case_split.proofs.drawing.+meet.Given as goal

abbrev pub decreases-meet : goal.decreases-meet
decreases-meet l = length l.premises.now
