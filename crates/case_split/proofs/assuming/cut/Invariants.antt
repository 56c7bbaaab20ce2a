use Rattle.std.proofs.Common.{◌≡◌, take, length}
use Rattle.case_split.proofs.assuming.cut.Given as goal

abbrev pub invariant-loop-bounds : goal.invariant-loop-bounds
invariant-loop-bounds l =
    record {
      inputs : l.bounds.inputs ≡ l.initial.bounds.inputs;
      assumptions : take l.depth l.bounds.assumptions ≡ take l.depth l.initial.bounds.assumptions;
    }

abbrev pub decreases-loop-bounds : goal.decreases-loop-bounds
decreases-loop-bounds l = length l.bounds.assumptions
