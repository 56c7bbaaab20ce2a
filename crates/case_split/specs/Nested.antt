-- The stages with which pending sides begin.
use Rattle.std.specs.Prelude.{ℕ, ◌≤◌, List, [], ◌∷◌, ◌++◌, length, take}
use Rattle.refutation.specs.declared.item.Fact.{Fact}
use Rattle.refutation.specs.Cases.{Path}
use Rattle.tree_check.specs.declared.form.Form.{Form}
use Rattle.case_split.specs.declared.later.Later.{Later}
use Rattle.case_split.specs.Stages.{Stage, assumed}
use Rattle.diff_bounds.specs.Pressing.{IsNear}
use Rattle.std.specs.List.{AllByRecursion}

-- the stage of a side, of whose split's stage the given lists have the beginnings
abbrev pub begun_one : Path → List Fact → List Form → Later → Stage
begun_one path facts forms l =
    assumed (record { path = take l.depth path; facts = take l.facts facts; forms = take l.forms forms }) l.side l.form

-- the stages of the sides, the last first
abbrev pub begun : Path → List Fact → List Form → List Later → List Stage
begun path facts forms [] = []
begun path facts forms (l ∷ later) = begun path facts forms later ++ begun_one path facts forms l ∷ []

-- no side begins deeper than the next, and none past the ends
abbrev pub IsFrom : ℕ → ℕ → ℕ → List Later → Path → List Fact → List Form → Type 0
IsFrom depth n m [] path facts forms = (depth ≤ length path) × (n ≤ length facts) × (m ≤ length forms)
IsFrom depth n m (l ∷ later) path facts forms = (depth ≤ l.depth) × (n ≤ l.facts) × (m ≤ l.forms) × IsFrom l.depth l.facts l.forms later path facts forms

abbrev pub IsNested : Path → List Fact → List Form → List Later → Type 0
IsNested path facts forms later = IsFrom 0 0 0 later path facts forms

-- the sides begin one in the other, and each assumes what bounds take
pub record AreNested (inputs : ℕ) (path : Path) (facts : List Fact) (forms : List Form) (later : List Later) : Type 0 where
  pub nested : IsNested path facts forms later
  pub near : AllByRecursion (λ l. IsNear inputs l.side) later
