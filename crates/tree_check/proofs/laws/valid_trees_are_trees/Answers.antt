use Rattle.refutation.proofs.Trees.{of-tree, to-tree}
use Rattle.tree_check.specs.Valid.{IsValidItem, root}
use Rattle.tree_check.proofs.laws.valid_trees_are_trees.Goals as goal

pub returns : goal.returns
returns c premises pair items = (
  λ h. to-tree (IsValidItem pair) (root premises) items h,
  λ h. of-tree (IsValidItem pair) (root premises) h.0 items h.1 h.2,
)
