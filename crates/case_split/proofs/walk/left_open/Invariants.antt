use Rattle.std.proofs.Common.{◌≡◌, ◌++◌, replicate}
use Rattle.refutation.specs.declared.item.Item.TheVariants as item
use Rattle.case_split.proofs.walk.left_open.Given as goal

abbrev pub invariant-loop-done : goal.invariant-loop-done
invariant-loop-done l = l.items ≡ l.initial.items ++ replicate l._done item.Unsettled
