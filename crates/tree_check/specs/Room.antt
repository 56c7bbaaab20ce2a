-- Where the constants of forms stay small.
use Rattle.std.specs.Prelude.{ℕ, ◌≤◌, List}
use Rattle.net_model.specs.Formula.{Formula, Never, Input, Named, Min, Max, Lt, Inc}
use Rattle.tree_check.specs.declared.form.Form.{Form}
use Rattle.tree_check.specs.declared.form.Form.TheVariants as form
use Rattle.tree_check.specs.Forms.{Known, form}

-- the constant is at most n
abbrev pub IsWithin : ℕ → Form → Type 0
IsWithin n form.Never = Unit {0}
IsWithin n (form.Plus i c) = c ≤ n
IsWithin n form.Undecided = Unit {0}

-- every inc of the formula gives a constant of at most 1,000,000
abbrev pub FormHasRoom : Known → List Form → Formula → Type 0
FormHasRoom known lets Never = Unit {0}
FormHasRoom known lets (Input i) = Unit {0}
FormHasRoom known lets (Named j) = Unit {0}
FormHasRoom known lets (Min a b) = FormHasRoom known lets a × FormHasRoom known lets b
FormHasRoom known lets (Max a b) = FormHasRoom known lets a × FormHasRoom known lets b
FormHasRoom known lets (Lt a b) = FormHasRoom known lets a × FormHasRoom known lets b
FormHasRoom known lets (Inc a c) = FormHasRoom known lets a × IsWithin 1000000 (form known lets (Inc a c))
