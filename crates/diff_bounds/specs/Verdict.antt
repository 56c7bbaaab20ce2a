-- The answers to one assumption more.
use Rattle.std.specs.Prelude.{◌≡◌, ℕ, ℤ, true, List}
use Rattle.refutation.specs.declared.assumption.Assumption.{Assumption}
use Rattle.refutation.specs.Path.{is_negative}
use Rattle.diff_bounds.specs.declared.added.Added.{Added}
use Rattle.diff_bounds.specs.declared.added.Added.TheVariants as added
use Rattle.diff_bounds.specs.Bounds.{more, CanBeMet, Implies}

abbrev pub IfContradiction : Added → (List ℕ → Type 0) → Type 0
IfContradiction added.Fresh P = Unit {0}
IfContradiction added.Held P = Unit {0}
IfContradiction (added.Contradiction chain) P = P chain

abbrev pub IsContradiction : Added → Type 0
IsContradiction added.Fresh = ⊥
IsContradiction added.Held = ⊥
IsContradiction (added.Contradiction chain) = Unit {0}

-- the assumptions afterwards: after a contradiction they are those before
abbrev pub grown : List Assumption → ℕ → ℕ → ℤ → Added → List Assumption
grown edges i j w added.Fresh = more edges i j w
grown edges i j w added.Held = more edges i j w
grown edges i j w (added.Contradiction chain) = edges

-- what is true of the answer
abbrev pub IsVerdict : List Assumption → ℕ → ℕ → ℤ → Added → Type 0
IsVerdict edges i j w added.Fresh = CanBeMet (more edges i j w) × (Implies edges i j w → ⊥)
IsVerdict edges i j w added.Held = Implies edges i j w
IsVerdict edges i j w (added.Contradiction chain) = is_negative (more edges i j w) chain ≡ true
