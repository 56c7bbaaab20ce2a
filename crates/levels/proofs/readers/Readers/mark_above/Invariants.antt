use Rattle.levels.specs.Marked.{HasMore, HasFirstAbove, NoMoreUpTo}
use Rattle.levels.specs.Operands.{list_at}
use Rattle.levels.proofs.readers.Readers.mark_above.Given as goal

abbrev pub invariant-loop-item : goal.invariant-loop-item
invariant-loop-item l = record {
  more : HasMore l.fn.marks l.marks;
  first : HasFirstAbove l.marks l.last (list_at l.self.lists l.place) l.item-index;
  below : NoMoreUpTo l.fn.marks l.marks l.last;
}
