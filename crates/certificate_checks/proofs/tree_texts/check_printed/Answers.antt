use Rattle.certificate_checks.proofs.tree_texts.check_printed.Goals as goal

pub print_tree-requires : goal.print_tree-requires
print_tree-requires g c = rw c.deref.ensures.value (c.what_is_spelled_are_trees.ensures _ _ c.in_ok-trees.ensures.trees)
