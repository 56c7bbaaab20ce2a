use Rattle.std.proofs.Common.{take}
use Rattle.term_store.specs.Trees.{tree, trees_at}
use Rattle.term_store.specs.Planting.{IsPlanted}
use Rattle.minterm.specs.Minterms.{joined}
use Rattle.term_store.specs.Room.{TakesRoom}
use Rattle.minterm.specs.Steps.{join_tree}
use Rattle.minterm.proofs.joining.put_joined.Given as goal

abbrev pub invariant-loop-next : goal.invariant-loop-next
invariant-loop-next l = record {
  planted : IsPlanted l.initial.store.nodes l.store.nodes (joined (join_tree l.join) (tree l.initial.store.nodes l.fn.first.0) (trees_at l.initial.store.nodes (take l.next-index l.rest))) l.last;
  room : TakesRoom l.initial.store l.store l.next-index;
}
