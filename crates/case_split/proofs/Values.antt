-- Terms have the times of their forms, and different forms make different times.
use Rattle.std.proofs.Common.{◌≡◌, ℕ, zero, suc, ◌+◌, ◌<◌, List, [], ◌∷◌, length, refl, sym, ap, ◌∙◌, arith, Bool, true, false, true≢false, get_or}
use Rattle.std.specs.Prelude.{pos, nat_eq, ◌&&◌}
use Rattle.std.specs.List.{All, AllByRecursion}
use Rattle.std.proofs.lemmas.Bool.{false≢true}
use Rattle.std.proofs.lemmas.Int.{ints}
use Rattle.rl_time.specs.declared.time.Time.{Time}
use Rattle.rl_time.specs.declared.time.Time.TheVariants as time
use Rattle.rl_time.specs.Time.{time_inc}
use Rattle.net_model.specs.Value.{time_at}
use Rattle.refutation.specs.declared.item.Fact.{Fact}
use Rattle.refutation.specs.Path.{MeetsAll}
use Rattle.refutation.specs.Cases.{Path}
use Rattle.spike_eval.specs.Causal.{numbers}
use Rattle.diff_bounds.specs.Bounds.{integers}
use Rattle.term_store.specs.Tree.{Tree, Never, Input, Min, Max, Lt, Inc, value}
use Rattle.tree_check.specs.declared.form.Form.{Form}
use Rattle.tree_check.specs.declared.form.Form.TheVariants as form
use Rattle.tree_check.specs.Forms.{Known, is_decided}
use Rattle.tree_check.specs.Valid.{listed}
use Rattle.tree_check.proofs.Chains.{and_true, equal}
use Rattle.tree_check.proofs.Forms.{IsSound, Holds, number_at, min_holds, max_holds, lt_holds, inc_holds, plus_zero}
use Rattle.case_split.specs.TermForms.{term_form, IsTimeOf}
use Rattle.case_split.specs.Decided.{AreRight}
use Rattle.case_split.specs.Task.{IsFact}
use Rattle.case_split.specs.Gathered.{fact_at}
use Rattle.case_split.specs.Leaves.{AreFormsApart}
use Rattle.case_split.proofs.Stays.{right_holds}
use Rattle.case_split.proofs.Cells.{listed_says}

module _ (ns : List ℕ) (known : Known) (sound : IsSound ns known) where
  pub term_holds : (t : Tree) → Holds (numbers ns) (term_form known t) (value (numbers ns) t)
  term_holds Never = refl
  term_holds (Input i) = plus_zero ns known sound (time_at (numbers ns) i)
  term_holds (Min a b) = min_holds ns known sound (term_form known a) (term_form known b) (value (numbers ns) a) (value (numbers ns) b) (term_holds a) (term_holds b)
  term_holds (Max a b) = max_holds ns known sound (term_form known a) (term_form known b) (value (numbers ns) a) (value (numbers ns) b) (term_holds a) (term_holds b)
  term_holds (Lt a b) = lt_holds ns known sound (term_form known a) (term_form known b) (value (numbers ns) a) (value (numbers ns) b) (term_holds a) (term_holds b)
  term_holds (Inc a c) = inc_holds ns known sound (term_form known a) (value (numbers ns) a) c (term_holds a)

-- right facts on inputs are so of numbers that meet the path
right_sound : (ns : List ℕ) (path : Path) (facts : List Fact) → ((p : ℕ) → p < length facts → ((fact_at facts p).from < length ns) × ((fact_at facts p).to < length ns)) → AreRight path facts → MeetsAll (integers ns) path → IsSound ns (listed facts)
right_sound ns path facts named right met i j w h =
    let s = listed_says facts i j w h in
    let p = and_true (nat_eq (fact_at facts s.place).from i && nat_eq (fact_at facts s.place).to j) _ s.says in
    let q = and_true (nat_eq (fact_at facts s.place).from i) _ p.0 in
    let from = equal (fact_at facts s.place).from i q.0 in
    let to = equal (fact_at facts s.place).to j q.1 in
    let f = named s.place s.within in
    let l = f.0 in
    let l' = f.1 in
    (omega (arith, from, l), omega (arith, to, l'), right_holds (integers ns) path met facts right i j w h)

pub facts_sound : (ns : List ℕ) (path : Path) (facts : List Fact) → All (IsFact (length ns)) facts → AreRight path facts → MeetsAll (integers ns) path → IsSound ns (listed facts)
facts_sound ns path facts are right met =
    right_sound ns path facts (λ p lt. let f = are p (record { from = 0; to = 0; bound = pos 0; chain = [] }) lt in (f.from, f.to)) right met

named_at : (n : ℕ) (facts : List Fact) → AllByRecursion (λ f. (f.from < n) × (f.to < n)) facts → (p : ℕ) → p < length facts → ((fact_at facts p).from < n) × ((fact_at facts p).to < n)
named_at n [] h p lt = absurd (omega (arith, lt))
named_at n (f ∷ facts) h zero lt = h.0
named_at n (f ∷ facts) h (suc p) lt = named_at n facts h.1 p (omega (arith, lt))

time_of : (x : List Time) (f : Form) (t : Time) → Holds x f t → IsTimeOf x f t
time_of x form.Never t h = h
time_of x (form.Plus i c) t h = h
time_of x form.Undecided t h = tt

pub terms_have_times : (path : Path) (facts : List Fact) (ns : List ℕ) (t : Tree) → AreRight path facts → AllByRecursion (λ f. (f.from < length ns) × (f.to < length ns)) facts → MeetsAll (integers ns) path →
    IsTimeOf (numbers ns) (term_form (listed facts) t) (value (numbers ns) t)
terms_have_times path facts ns t right named met =
    time_of (numbers ns) (term_form (listed facts) t) (value (numbers ns) t) (term_holds ns (listed facts) (right_sound ns path facts (named_at (length ns) facts named) right met) t)

at_inc : (ns : List ℕ) (i c : ℕ) → i < length ns → time_inc (time_at (numbers ns) i) c ≡ time.At (get_or ns i 0 + c)
at_inc ns i c lt = ap (λ (t : Time). time_inc t c) (number_at ns i lt)

number_of : Time → ℕ
number_of (time.At a) = a
number_of time.Never = 0

is_at : Time → Bool
is_at (time.At a) = true
is_at time.Never = false

at_never : (a : ℕ) → time.At a ≡ time.Never → ⊥
unfolding is_at
at_never a e = true≢false (ap is_at e)

-- the form names an input of n
abbrev pub IsOver : ℕ → Form → Type 0
IsOver n form.Never = Unit {0}
IsOver n (form.Plus i c) = i < n
IsOver n form.Undecided = Unit {0}

-- where two decided forms are different times, what they hold of differs
pub forms_differ : (ns : List ℕ) (f g : Form) (s t : Time) → is_decided f ≡ true → is_decided g ≡ true → IsOver (length ns) f → IsOver (length ns) g →
    Holds (numbers ns) f s → Holds (numbers ns) g t → AreFormsApart (integers ns) f g → s ≡ t → ⊥
unfolding number_of
forms_differ ns form.Never form.Never s t df dg of og hs ht apart e = apart
forms_differ ns form.Never (form.Plus j d) s t df dg of og hs ht apart e = at_never _ (sym (at_inc ns j d og) ∙ (sym ht ∙ (sym e ∙ hs)))
forms_differ ns (form.Plus i c) form.Never s t df dg of og hs ht apart e = at_never _ (sym (at_inc ns i c of) ∙ (sym hs ∙ (e ∙ ht)))
forms_differ ns (form.Plus i c) (form.Plus j d) s t df dg of og hs ht apart e =
    let same : get_or ns i 0 + c ≡ get_or ns j 0 + d = ap number_of (sym (at_inc ns i c of) ∙ (sym hs ∙ (e ∙ (ht ∙ at_inc ns j d og)))) in
    apart (omega (arith, ints, same))
forms_differ ns form.Undecided g s t df dg of og hs ht apart e = absurd (false≢true df)
forms_differ ns form.Never form.Undecided s t df dg of og hs ht apart e = absurd (false≢true dg)
forms_differ ns (form.Plus i c) form.Undecided s t df dg of og hs ht apart e = absurd (false≢true dg)
