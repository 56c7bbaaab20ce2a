use Rattle.std.proofs.Common.{◌≡◌, ◌≤◌, drop, ◌∷◌, []}
use Rattle.tree_check.specs.Needed.{asked}
use Rattle.tree_check.specs.Valid.{outputs, root}
use Rattle.tree_check.specs.Verdict.{flawed}
use Rattle.tree_check.proofs.walk.walk.Given as goal

abbrev pub invariant-loop-item : goal.invariant-loop-item
invariant-loop-item l =
    record {
      here : l.place ≡ l.item-index;
      older : l.table.stamp ≤ l.place;
      one : l.one ≡ asked l.first l.out;
      other : l.other ≡ asked l.second l.out;
      rest : flawed (outputs l.first l.second l.out) l.stack l.place (drop l.item-index l.items) ≡ flawed (outputs l.first l.second l.out) (root l.premises ∷ []) 0 l.items;
    }
