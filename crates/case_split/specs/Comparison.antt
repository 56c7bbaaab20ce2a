-- What is found of all outputs of two networks, in order.
use Rattle.std.specs.Prelude.{◌≡◌, ℕ, ◌<◌, ◌≤◌, List, length}
use Rattle.net_model.specs.declared.assume.Assume.{Assume}
use Rattle.net_model.specs.Formula.{Net}
use Rattle.net_model.specs.Rules.{names_of}
use Rattle.spike_eval.specs.Outputs.{output_function}
use Rattle.spike_eval.specs.Premises.{AreEqualUnder}
use Rattle.refutation.specs.declared.item.Item.{Item}
use Rattle.refutation.specs.declared.tree.NamedTree.{NamedTree}
use Rattle.refutation.specs.Trees as trees
use Rattle.std.specs.List.{slice_index_or}
use Rattle.tree_check.specs.Valid.{Pair, IsValid, outputs}
use Rattle.case_split.specs.Live.{opened}
use Rattle.case_split.specs.Verdicts.{IsDifference, IsEqualTree, IsUndecidedTree}
use Rattle.case_split.specs.declared.compared.Compared.{Compared}
use Rattle.case_split.specs.declared.compared.Compared.TheVariants.{Equal, Different, Undecided}

-- the outputs before place k are equal at all times that meet the premises
abbrev pub AreEqualBefore : List Assume → Net → Net → ℕ → Type 0
AreEqualBefore premises first second k =
    (j : ℕ) → j < k → AreEqualUnder premises (length first.inputs) (output_function first j) (output_function second j)

-- a tree for each output, in order, which shows that the output is equal at all times that meet the premises
pub record ShowEqual (premises : List Assume) (first second : Net) (budget : ℕ) (all : List NamedTree) : Type 0 where
  pub names : trees.names_of all ≡ names_of first.outputs
  pub shown : (k : ℕ) (d : NamedTree) → k < length all → IsEqualTree premises (outputs first second k) budget (slice_index_or all k d).tree

-- a comparison says this of the outputs
abbrev pub IsComparison : List Assume → Net → Net → ℕ → Compared → Type 0
IsComparison premises first second budget (Equal all) = ShowEqual premises first second budget all.items
IsComparison premises first second budget (Different k times) =
    (k < length first.outputs) × AreEqualBefore premises first second k × IsDifference premises (outputs first second k) times.items
IsComparison premises first second budget (Undecided k cases) =
    (k < length first.outputs) × AreEqualBefore premises first second k
    × ((items : List Item) × IsUndecidedTree premises (outputs first second k) budget items × (cases ≡ opened items))

-- a valid tree of at most so many items
abbrev pub HasTree : List Assume → Pair → ℕ → Type 0
HasTree premises pair budget = (items : List Item) × IsValid premises pair items × (length items ≤ budget)

-- trees for all outputs
abbrev pub AreEqual : Compared → Type 0
AreEqual (Equal all) = Unit {0}
AreEqual (Different k times) = ⊥
AreEqual (Undecided k cases) = ⊥
