-- The terms of a network: its lets and outputs, written out.
use Rattle.std.specs.Prelude.{ℕ, zero, suc, List, [], ◌∷◌, ◌++◌, fold, map, nat_eq, if◌then◌else◌, slice_index_or}
use Rattle.net_model.specs.Formula.{Formula, Equation, Net}
use Rattle.net_model.specs.Formula as formula
use Rattle.term_store.specs.Tree.{Tree, Never, Input, Min, Max, Lt, Inc}

-- the tree at a place, and never past the end
abbrev pub tree_in : List Tree → ℕ → Tree
tree_in trees place = slice_index_or trees place Never

-- the term c cycles later; by 0 it is the term itself
abbrev pub delayed : Tree → ℕ → Tree
delayed t c = if nat_eq c 0 then t else Inc t c

-- the tree of a formula, with the trees of the lets in the place of their names
abbrev pub tree_over : List Tree → Formula → Tree
tree_over lets formula.Never = Never
tree_over lets (formula.Input i) = Input i
tree_over lets (formula.Named j) = tree_in lets j
tree_over lets (formula.Min a b) = Min (tree_over lets a) (tree_over lets b)
tree_over lets (formula.Max a b) = Max (tree_over lets a) (tree_over lets b)
tree_over lets (formula.Lt a b) = Lt (tree_over lets a) (tree_over lets b)
tree_over lets (formula.Inc a c) = delayed (tree_over lets a) c

-- the trees of the lets, in order
abbrev pub let_trees : List Equation → List Tree
let_trees lets = fold (λ trees e. trees ++ tree_over trees e.body ∷ []) [] lets

-- the trees of these equations over the lets, in order
abbrev pub equation_trees : List Equation → List Equation → List Tree
equation_trees lets equations = map (λ e. tree_over (let_trees lets) e.body) equations

-- the trees of the outputs, in order
abbrev pub network_trees : Net → List Tree
network_trees n = equation_trees n.lets n.outputs

-- the trees of the first inputs, in order
abbrev pub input_trees : ℕ → List Tree
input_trees zero = []
input_trees (suc i) = input_trees i ++ Input i ∷ []
