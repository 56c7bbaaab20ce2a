use Rattle.std.proofs.Common.{◌≡◌, ◌++◌, drop}
use Rattle.tree_check.specs.Needed.{marked_places}
use Rattle.tree_check.proofs.marking.marked_places.Given as goal

abbrev pub invariant-loop-marked : goal.invariant-loop-marked
invariant-loop-marked l =
    record {
      here : l.place ≡ l.marked-index;
      rest : (l.places.items ++ marked_places l.place (drop l.marked-index l.marks)) ≡ marked_places 0 l.marks;
    }
