-- What a network's output is where some bounds on the differences of the inputs are known.
use Rattle.std.specs.Prelude.{◌≡◌, ℕ, ◌+◌, ℤ, pos, ◌-ℤ◌, Bool, true, false, nat_eq, nat_le, if◌then◌else◌, List, [], ◌∷◌, ◌++◌, fold, map, slice_index_or, Option, Some, None}
use Rattle.net_model.specs.Formula as f
use Rattle.net_model.specs.Formula.{Formula, Equation, Net}
use Rattle.tree_check.specs.declared.form.Form.{Form}
use Rattle.tree_check.specs.declared.form.Form.TheVariants.{Never, Plus, Undecided}

-- what is known: whether x_i - x_j <= w
abbrev pub Known : Type 0
Known = ℕ → ℕ → ℤ → Bool

-- whether x_i + c <= x_j + d, where that is decided
abbrev pub compared : Known → ℕ → ℕ → ℕ → ℕ → Option Bool
compared known i c j d =
    if nat_eq i j then Some (nat_le c d)
    else (if known i j (pos d -ℤ pos c) then Some true
    else (if known j i ((pos c -ℤ pos d) -ℤ pos 1) then Some false else None))

-- one form where a comparison is yes, the other where it is no
abbrev pub chosen : Option Bool → Form → Form → Form
chosen (Some true) f g = f
chosen (Some false) f g = g
chosen None f g = Undecided

abbrev pub min_form : Known → Form → Form → Form
min_form known Undecided g = Undecided
min_form known Never g = g
min_form known (Plus i c) Undecided = Undecided
min_form known (Plus i c) Never = Plus i c
min_form known (Plus i c) (Plus j d) = chosen (compared known i c j d) (Plus i c) (Plus j d)

abbrev pub max_form : Known → Form → Form → Form
max_form known Undecided g = Undecided
max_form known f Undecided = Undecided
max_form known Never g = Never
max_form known (Plus i c) Never = Never
max_form known (Plus i c) (Plus j d) = chosen (compared known i c j d) (Plus j d) (Plus i c)

abbrev pub lt_form : Known → Form → Form → Form
lt_form known Undecided g = Undecided
lt_form known f Undecided = Undecided
lt_form known Never g = Never
lt_form known (Plus i c) Never = Plus i c
lt_form known (Plus i c) (Plus j d) = chosen (compared known j d i c) Never (Plus i c)

abbrev pub inc_form : Form → ℕ → Form
inc_form Never c = Never
inc_form (Plus i b) c = Plus i (b + c)
inc_form Undecided c = Undecided

-- the form at a place, and never past the end
abbrev pub form_at : List Form → ℕ → Form
form_at forms place = slice_index_or forms place Never

-- the form of a formula, over the forms of the lets
abbrev pub form : Known → List Form → Formula → Form
form known lets f.Never = Never
form known lets (f.Input i) = Plus i 0
form known lets (f.Named j) = form_at lets j
form known lets (f.Min a b) = min_form known (form known lets a) (form known lets b)
form known lets (f.Max a b) = max_form known (form known lets a) (form known lets b)
form known lets (f.Lt a b) = lt_form known (form known lets a) (form known lets b)
form known lets (f.Inc a c) = inc_form (form known lets a) c

-- the forms of the lets, in order
abbrev pub let_forms : Known → List Equation → List Form
let_forms known lets = fold (λ forms e. forms ++ form known forms e.body ∷ []) [] lets

-- the form of the output at place k
abbrev pub output_form : Known → Net → ℕ → Form
output_form known n k = form_at (map (λ e. form known (let_forms known n.lets) e.body) n.outputs) k

abbrev pub is_decided : Form → Bool
is_decided Undecided = false
is_decided f = true

-- two forms are the same time at all inputs of which this is known: both are never, or each is at most the other
abbrev pub AreEqualForms : Known → Form → Form → Type 0
AreEqualForms known Never Never = Unit {0}
AreEqualForms known (Plus i c) (Plus j d) = (compared known i c j d ≡ Some true) × (compared known j d i c ≡ Some true)
AreEqualForms known f g = ⊥
