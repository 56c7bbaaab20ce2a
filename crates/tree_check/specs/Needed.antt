-- The lets that an output needs.
use Rattle.std.specs.Prelude.{◌≡◌, ℕ, ◌+◌, ◌<◌, ◌≤◌, Bool, true, false, if◌then◌else◌, List, [], ◌∷◌, ◌++◌, length, slice_index_or, slice_set}
use Rattle.std.specs.List.{Contains}
use Rattle.net_model.specs.Formula.{Formula, Never, Input, Named, Min, Max, Lt, Inc, Equation, Net}
use Rattle.net_model.specs.Rules.{IsNetwork}
use Rattle.tree_check.specs.declared.form.Form.{Form}

-- P holds of the place of each let that the formula names
abbrev pub EachName : (ℕ → Type 0) → Formula → Type 0
EachName P Never = Unit {0}
EachName P (Input i) = Unit {0}
EachName P (Named j) = P j
EachName P (Min a b) = EachName P a × EachName P b
EachName P (Max a b) = EachName P a × EachName P b
EachName P (Lt a b) = EachName P a × EachName P b
EachName P (Inc a c) = EachName P a

-- the formula of the equation at a place, and never past the end
abbrev pub body_at : List Equation → ℕ → Formula
body_at equations place = (slice_index_or equations place (record { name = []; body = Never })).body

-- each place is that of a let that names only lets at places before it in the list, or at those that were done before
abbrev pub AreInOrder : List Equation → List ℕ → List ℕ → Type 0
AreInOrder lets done [] = Unit {0}
AreInOrder lets done (p ∷ places) = (p < length lets) × EachName (Contains done) (body_at lets p) × AreInOrder lets (done ++ p ∷ []) places

-- the mark at a place is set
abbrev pub IsMarked : List Bool → ℕ → Type 0
IsMarked marks j = slice_index_or marks j false ≡ true

-- from place k on, what a marked let names is marked
pub record AreMarks (lets : List Equation) (t : Formula) (k : ℕ) (marks : List Bool) : Type 0 where
  pub long : length marks ≡ length lets
  pub body : EachName (IsMarked marks) t
  pub closed : (j : ℕ) → k ≤ j → j < length lets → IsMarked marks j → EachName (IsMarked marks) (body_at lets j)

-- the marks, and those of the lets that a formula names
abbrev pub with_names : List Bool → Formula → List Bool
with_names marks Never = marks
with_names marks (Input i) = marks
with_names marks (Named j) = slice_set marks j true
with_names marks (Min a b) = with_names (with_names marks a) b
with_names marks (Max a b) = with_names (with_names marks a) b
with_names marks (Lt a b) = with_names (with_names marks a) b
with_names marks (Inc a c) = with_names marks a

-- the marked places in order, where the first has the number n
abbrev pub marked_places : ℕ → List Bool → List ℕ
marked_places n [] = []
marked_places n (m ∷ marks) = if m then n ∷ marked_places (n + 1) marks else marked_places (n + 1) marks

-- an output of a network
pub record Asked : Type 0 where
  pub network : Net
  pub place : ℕ

abbrev pub asked : Net → ℕ → Asked
asked n k = record { network = n; place = k }

-- the output is there, the places are those of the lets that it needs, in order, and each let has room for its form
pub record IsReady (n : Net) (k : ℕ) (places : List ℕ) (forms : List Form) : Type 0 where
  pub rules : IsNetwork n
  pub there : k < length n.outputs
  pub in_order : AreInOrder n.lets [] places
  pub needed : EachName (Contains places) (body_at n.outputs k)
  pub long : length forms ≡ length n.lets
