use Rattle.levels.specs.Marked.{HasMore, HasFirst}
use Rattle.levels.specs.Operands.{list_at}
use Rattle.levels.proofs.readers.Readers.mark_all.Given as goal

abbrev pub invariant-loop-item : goal.invariant-loop-item
invariant-loop-item l = record {
  more : HasMore l.fn.marks l.marks;
  first : HasFirst l.marks (list_at l.self.lists l.place) l.item-index;
}
