use Rattle.std.proofs.Common.{◌≡◌, ◌++◌, take}
use Rattle.refutation.specs.Text.{items_text}
use Rattle.refutation.proofs.print.put_items.Given as goal

abbrev pub invariant-loop-item : goal.invariant-loop-item
invariant-loop-item l = l.text.items ≡ l.initial.text.items ++ items_text (take l.item-index l.items)
