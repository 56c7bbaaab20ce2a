-- What the chains of a path decide of terms.
use Rattle.std.specs.Prelude.{◌≡◌, ℕ, true, List, None}
use Rattle.std.specs.List.{AllByRecursion}
use Rattle.refutation.specs.declared.item.Fact.{Fact}
use Rattle.refutation.specs.Cases.{Path}
use Rattle.diff_bounds.specs.Bounds.{CanBeMet}
use Rattle.term_store.specs.Tree.{Tree}
use Rattle.tree_check.specs.declared.form.Form.TheVariants.{Plus, Undecided}
use Rattle.tree_check.specs.Forms.{compared}
use Rattle.tree_check.specs.Valid.{is_right, listed}
use Rattle.case_split.specs.TermForms.{term_form}

-- chains of the path show all of the facts
abbrev pub AreRight : Path → List Fact → Type 0
AreRight path facts = AllByRecursion (λ f. is_right path f ≡ true) facts

-- by some facts that chains of the path show, the term is the input i plus c cycles
abbrev pub IsPlus : Path → Tree → ℕ → ℕ → Type 0
IsPlus path t i c = (facts : List Fact) × AreRight path facts × (term_form (listed facts) t ≡ Plus i c)

-- no facts that chains of the path show decide whether x_i + c <= x_j + d
abbrev pub IsOpen : Path → ℕ → ℕ → ℕ → ℕ → Type 0
IsOpen path i c j d = (facts : List Fact) → AreRight path facts → compared (listed facts) i c j d ≡ None

-- no facts that chains of the path show decide the term
abbrev pub IsUndecided : Path → Tree → Type 0
IsUndecided path t = (facts : List Fact) → AreRight path facts → term_form (listed facts) t ≡ Undecided

-- some integers meet the path, or at least it isn't so that none do
abbrev pub IsPossible : Path → Type 0
IsPossible path = (CanBeMet path → ⊥) → ⊥
