use Rattle.case_split.proofs.Least.{live_is_less}
use Rattle.case_split.proofs.laws.live_trees_are_too_small.Goals as goal

pub returns : goal.returns
returns c = record { law = λ premises pair items others live valid. live_is_less pair premises others valid items live.splits live.unsettled }
