use Rattle.std.proofs.Common.{◌≡◌, ◌≤◌, ◌∷◌, length, ◌+◌, ◌-◌}
use Rattle.case_split.specs.Live.{opened}
use Rattle.case_split.proofs.Walking.{IsWalk}
use Rattle.case_split.proofs.walk.settle.Given as goal

abbrev pub invariant-walk : goal.invariant-walk
invariant-walk l =
    record {
      inputs : l.stages.inputs ≡ l.question.inputs;
      walk : IsWalk l.question l.items (l.stages.now ∷ l.stages.later);
      opened : l.opened ≡ opened l.items;
      within : l.opened ≤ l.budget;
    }

abbrev pub decreases-walk : goal.decreases-walk
decreases-walk l = (l.budget - l.opened) + length l.stages.later
