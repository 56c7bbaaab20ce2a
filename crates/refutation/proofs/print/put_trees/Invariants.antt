use Rattle.std.proofs.Common.{◌≡◌, ◌++◌, take}
use Rattle.refutation.specs.Text.{forest_text}
use Rattle.refutation.proofs.print.put_trees.Given as goal

abbrev pub invariant-loop-tree : goal.invariant-loop-tree
invariant-loop-tree l = l.text.items ≡ l.initial.text.items ++ forest_text (take l.tree-index l.trees)
