use Rattle.simplify.proofs.Steps.{step_of}
use Rattle.simplify.proofs.laws.each_law_holds.Goals as goal

pub returns : goal.returns
returns c = record {
  times = λ t u l d x. (step_of t u l).times d x;
  no_later = λ t u l. (step_of t u l).no_longer;
}
