use Rattle.net_model.specs.View.{formula}
use Rattle.tree_check.specs.Needed.{AreMarks}
use Rattle.tree_check.proofs.marking.mark_all.Given as goal

abbrev pub invariant-loop-at : goal.invariant-loop-at
invariant-loop-at l = AreMarks l.lets (formula l.body) l.at l.marks.items
