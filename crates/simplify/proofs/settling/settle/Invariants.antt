use Rattle.std.proofs.Common.{◌≡◌, ◌≤◌, length}
use Rattle.term_store.specs.Tree.{span}
use Rattle.term_store.specs.Nodes.{IsNodeOver}
use Rattle.term_store.specs.Places.{tree_by_places}
use Rattle.simplify.specs.Simplified.{settled, size}
use Rattle.simplify.proofs.settling.settle.Given as goal

abbrev pub invariant-loop-outcome : goal.invariant-loop-outcome
invariant-loop-outcome l = record {
  over : IsNodeOver (length l.store.nodes) l.last;
  short : span (tree_by_places l.store.nodes l.last) ≤ 1000000;
  settles : settled (tree_by_places l.store.nodes l.last) ≡ settled (tree_by_places l.store.nodes l.fn.node);
}

abbrev pub decreases-loop-outcome : goal.decreases-loop-outcome
decreases-loop-outcome l = size (tree_by_places l.store.nodes l.last)
