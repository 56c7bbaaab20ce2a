use Rattle.std.proofs.Common.{◌≡◌}
use Rattle.case_split.specs.Walk.{joins_left, IsAt}
use Rattle.case_split.proofs.ways.go_on.Given as goal

abbrev pub invariant-way : goal.invariant-way
invariant-way l =
    record {
      at : IsAt l.question l.stages.now;
      inputs : l.stages.inputs ≡ l.question.inputs;
      same : l.stages.inputs ≡ l.initial.stages.inputs;
    }

abbrev pub decreases-way : goal.decreases-way
decreases-way l = joins_left l.question l.stages.now
