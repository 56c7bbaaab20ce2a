use Rattle.levels.proofs.Bits.{all_marked}
use Rattle.levels.proofs.marks.Marks.all.Goals as goal

pub returns-clause-all : goal.returns-clause-all
returns-clause-all c = λ k lt. all_marked _ c.args.count k c.in_ok-ones.ensures lt
