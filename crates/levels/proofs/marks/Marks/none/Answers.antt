use Rattle.levels.proofs.Bits.{none_marked}
use Rattle.levels.proofs.marks.Marks.none.Goals as goal

pub returns-clause-none : goal.returns-clause-none
returns-clause-none c = λ k. none_marked _ _ k c.in_ok-zeros.ensures
