-- The trees of a file.
use Rattle.std.specs.Prelude.{ℕ, ◌≤◌, IsTrue, List, length, map}
use Rattle.std.specs.List.{list_all, AllByRecursion}
use Rattle.net_model.specs.Rules.{is_port_name, are_distinct}
use Rattle.refutation.specs.declared.tree.NamedTree.{NamedTree}
use Rattle.refutation.specs.Limits.{most_trees, KeepsLimits}

abbrev pub names_of : List NamedTree → List (List ℕ)
names_of trees = map (λ t. t.name) trees

-- a tree of a file has an item
pub record IsTree (t : NamedTree) : Type 0 where
  pub some : 1 ≤ length t.tree
  pub limits : KeepsLimits t.tree

pub record AreTrees (all : List NamedTree) : Type 0 where
  pub some : 1 ≤ length all
  pub few : length all ≤ most_trees
  pub names : IsTrue (list_all is_port_name (names_of all))
  pub distinct : IsTrue (are_distinct (names_of all))
  pub trees : AllByRecursion IsTree all
