use Rattle.case_split.proofs.Least.{due_is_least}
use Rattle.case_split.proofs.laws.trees_of_due_splits_are_least.Goals as goal

pub returns : goal.returns
returns c = record { law = λ premises pair items others due valid. due_is_least pair premises others valid items due }
