-- What a term is where some bounds on the differences of the inputs are known.
use Rattle.std.specs.Prelude.{◌≡◌, ℕ, ℤ, ◌-ℤ◌, ◌≤ℤ◌, true, List}
use Rattle.rl_time.specs.declared.time.Time.{Time}
use Rattle.rl_time.specs.declared.time.Time.TheVariants as time
use Rattle.rl_time.specs.Time.{time_inc}
use Rattle.net_model.specs.Value.{time_at}
use Rattle.term_store.specs.Tree.{Tree, Never, Input, Min, Max, Lt, Inc}
use Rattle.tree_check.specs.declared.form.Form.{Form}
use Rattle.tree_check.specs.declared.form.Form.TheVariants as form
use Rattle.tree_check.specs.Forms.{Known, min_form, max_form, lt_form, inc_form}

-- the form of a term
abbrev pub term_form : Known → Tree → Form
term_form known Never = form.Never
term_form known (Input i) = form.Plus i 0
term_form known (Min a b) = min_form known (term_form known a) (term_form known b)
term_form known (Max a b) = max_form known (term_form known a) (term_form known b)
term_form known (Lt a b) = lt_form known (term_form known a) (term_form known b)
term_form known (Inc a c) = inc_form (term_form known a) c

-- what one knows, the other knows too
abbrev pub IsWithinKnown : Known → Known → Type 0
IsWithinKnown known wider = (i j : ℕ) (w : ℤ) → known i j w ≡ true → wider i j w ≡ true

-- what is known is so of these integers
abbrev pub HoldsAt : (ℕ → ℤ) → Known → Type 0
HoldsAt x known = (i j : ℕ) (w : ℤ) → known i j w ≡ true → (x i -ℤ x j) ≤ℤ w

-- the time that a decided form is, at the times x of the inputs
abbrev pub IsTimeOf : List Time → Form → Time → Type 0
IsTimeOf x form.Never t = t ≡ time.Never
IsTimeOf x (form.Plus i c) t = t ≡ time_inc (time_at x i) c
IsTimeOf x form.Undecided t = Unit {0}
