use Rattle.std.proofs.Common.{◌≡◌, ◌+◌, drop}
use Rattle.case_split.specs.Live.{splits}
use Rattle.case_split.proofs.comparing.count_splits.Given as goal

abbrev pub invariant-loop-item : goal.invariant-loop-item
invariant-loop-item l = l.count + splits (drop l.item-index l.items) ≡ splits l.items
