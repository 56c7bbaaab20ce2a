-- What the two terms are where every place has a form.
use Rattle.std.specs.Prelude.{◌≡◌, ℕ, ℤ, pos, ◌+ℤ◌, ◌≤◌, ◌<◌, true, List, [], ◌∷◌, length}
use Rattle.std.specs.List.{All}
use Rattle.refutation.specs.declared.item.Item.{Item}
use Rattle.refutation.specs.declared.item.Item.TheVariants as item
use Rattle.refutation.specs.declared.item.Fact.{Fact}
use Rattle.refutation.specs.Limits.{IsSmallItem}
use Rattle.refutation.specs.Path.{MeetsAll, is_negative}
use Rattle.refutation.specs.Cases.{Path}
use Rattle.spike_eval.specs.Causal.{numbers}
use Rattle.diff_bounds.specs.Bounds.{integers}
use Rattle.term_store.specs.declared.node.Term.{Term}
use Rattle.term_store.specs.Tree.{Tree, value}
use Rattle.tree_check.specs.declared.form.Form.{Form}
use Rattle.tree_check.specs.declared.form.Form.TheVariants as form
use Rattle.tree_check.specs.Forms.{AreEqualForms}
use Rattle.tree_check.specs.Valid.{listed, names_inputs}
use Rattle.case_split.specs.TermForms.{term_form}
use Rattle.case_split.specs.Decided.{AreRight}
use Rattle.case_split.specs.Stages.{Stages}
use Rattle.case_split.specs.Task.{Task, IsTask, IsStage}
use Rattle.case_split.specs.declared.ending.Ending.{Ending}
use Rattle.case_split.specs.declared.ending.Ending.TheVariants.{Equal, Different}

-- chains of the path show the facts, under which the two terms are equal
pub record AreEqualUnder (path : Path) (a b : Tree) (facts : List Fact) : Type 0 where
  pub right : AreRight path facts
  pub equal : AreEqualForms (listed facts) (term_form (listed facts) a) (term_form (listed facts) b)

-- a number for each of n inputs, at most 63,000,063: they meet the path, and the two terms differ at them
pub record AreApart (n : ℕ) (path : Path) (a b : Tree) (ns : List ℕ) : Type 0 where
  pub long : length ns ≡ n
  pub small : All (λ y. y ≤ 63000063) ns
  pub meet : MeetsAll (integers ns) path
  pub differ : value (numbers ns) a ≡ value (numbers ns) b → ⊥

-- what an item of a tree of cases shows of two terms over n inputs
abbrev pub IsValidItem : ℕ → Tree → Tree → Path → Item → Type 0
IsValidItem n a b path (item.Split i j w) = names_inputs n (item.Split i j w) ≡ true
IsValidItem n a b path (item.Leaf facts) = (names_inputs n (item.Leaf facts) ≡ true) × AreEqualUnder path a b facts
IsValidItem n a b path (item.Closed chain) = is_negative path chain ≡ true
IsValidItem n a b path item.Unsettled = ⊥

-- what is true of the end of a branch
abbrev pub IsEnding : ℕ → Path → Tree → Tree → Ending → Type 0
IsEnding n path a b (Equal facts) = IsValidItem n a b path (item.Leaf facts) × IsSmallItem (item.Leaf facts)
IsEnding n path a b (Different ns) = AreApart n path a b ns.items

-- the stage is one of the task, whose outputs are these two places, and every place has its form
pub record IsWhole (task : Task) (s : Stages) (first second : Term) : Type 0 where
  pub is_task : IsTask task
  pub roots : task.roots ≡ first ∷ second ∷ []
  pub inputs : task.inputs ≡ s.inputs
  pub stage : IsStage task s.now
  pub whole : length s.now.forms ≡ length task.nodes

-- the form names one of n inputs, by at most 1,000,000 cycles
abbrev pub IsFormOver : ℕ → Form → Type 0
IsFormOver n form.Never = Unit {0}
IsFormOver n (form.Plus i c) = (i < n) × (c ≤ 1000000)
IsFormOver n form.Undecided = Unit {0}

-- at these integers the two forms are different times
abbrev pub AreFormsApart : (ℕ → ℤ) → Form → Form → Type 0
AreFormsApart x form.Never form.Never = ⊥
AreFormsApart x (form.Plus i c) (form.Plus j d) = (x i +ℤ pos c) ≡ (x j +ℤ pos d) → ⊥
AreFormsApart x f g = Unit {0}
