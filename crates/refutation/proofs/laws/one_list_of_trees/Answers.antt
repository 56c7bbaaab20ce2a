use Rattle.refutation.proofs.laws.one_list_of_trees.Goals as goal

pub returns : goal.returns
returns c = c.one_value.ensures
