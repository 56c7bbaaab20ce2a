-- What an end of a branch shows.
use Rattle.std.proofs.Common.{◌≡◌, ℕ, zero, suc, ◌<◌, ◌≤◌, List, [], ◌∷◌, ◌++◌, length, refl, subst, sym, ap, ◌∙◌, arith, Bool, true, false, true≢false, get_or, lt-ltb, inl, inr, to_z, of_z, w64}
use Rattle.std.specs.Prelude.{ℤ, pos, neg_ℤ, ◌-ℤ◌, ◌≤ℤ◌, nat_eq, nat_le, nat_lt, ◌&&◌, ◌||◌, Option, Some, None, if◌then◌else◌}
use Rattle.std.specs.List.{All, AllByRecursion, list_all}
use Rattle.std.specs.Bool.{MatchBool}
use Rattle.std.specs.Prelude.{Result, Ok, Err, IfOk, OnOk}
use Rattle.std.specs.Option.{MatchOption}
use Rattle.std.proofs.lemmas.Bool.{false≢true, or_cases}
use Rattle.std.proofs.lemmas.Bool.Decides.{nat_tests}
use Rattle.std.proofs.lemmas.Option.{none-some}
use Rattle.std.proofs.lemmas.Int.{ints}
use Rattle.std.proofs.lemmas.List.Elements.{All-append}
use Rattle.refutation.specs.declared.item.Fact.{Fact}
use Rattle.refutation.specs.Limits.{IsSmallFact}
use Rattle.refutation.specs.Path.{MeetsAll, assumption}
use Rattle.refutation.specs.Cases.{Path}
use Rattle.diff_bounds.specs.Bounds.{IsSolution, integers}
use Rattle.diff_bounds.proofs.Kept.{meets_fewer, meets_last}
use Rattle.term_store.specs.declared.node.Term.{Term}
use Rattle.term_store.specs.Tree.{value}
use Rattle.term_store.specs.Trees.{tree}
use Rattle.tree_check.specs.declared.form.Form.{Form}
use Rattle.tree_check.specs.declared.form.Form.TheVariants as form
use Rattle.tree_check.specs.Forms.{Known, compared, form_at, is_decided, AreEqualForms}
use Rattle.tree_check.specs.Valid.{fact_says, listed}
use Rattle.spike_eval.specs.Causal.{numbers}
use Rattle.tree_check.proofs.Chains.{equal}
use Rattle.tree_check.proofs.Forms.{Holds}
use Rattle.case_split.specs.TermForms.{term_form, IsWithinKnown, HoldsAt}
use Rattle.case_split.specs.Decided.{AreRight, IsPossible}
use Rattle.case_split.specs.Stages.{Stages}
use Rattle.case_split.specs.Task.{Task, IsFact}
use Rattle.case_split.specs.Gathered.{AreGathered}
use Rattle.case_split.specs.Leaves.{IsWhole, IsFormOver, AreFormsApart, IsEnding, AreApart}
use Rattle.case_split.specs.declared.comparison.Comparison.{Comparison}
use Rattle.case_split.specs.declared.ending.Ending.TheVariants.{Equal}
use Rattle.case_split.proofs.Stays.{forms_stay, forms_are_small, forms_name_inputs, right_holds}
use Rattle.case_split.proofs.Values.{term_holds, facts_sound, forms_differ, IsOver}

some_same : (a b : Bool) → Some a ≡ Some b → a ≡ b
some_same a b e = ap or_true e
  where
    or_true : Option Bool → Bool
    or_true (Some x) = x
    or_true None = true

-- ---- answers

-- where the answer is no, the first is later at all integers of which what is known is so
pub no_at : (x : ℕ → ℤ) (known : Known) → HoldsAt x known → (i c j d : ℕ) → compared known i c j d ≡ Some false → (x j -ℤ x i) ≤ℤ ((pos c -ℤ pos d) -ℤ pos 1)
no_at x known holds i c j d h = go (nat_eq i j) refl (known i j (pos d -ℤ pos c)) (known j i ((pos c -ℤ pos d) -ℤ pos 1)) refl h
  where
    go : (p : Bool) → nat_eq i j ≡ p → (q r : Bool) → known j i ((pos c -ℤ pos d) -ℤ pos 1) ≡ r → (if p then Some (nat_le c d) else (if q then Some true else (if r then Some false else None))) ≡ Some false →
        (x j -ℤ x i) ≤ℤ ((pos c -ℤ pos d) -ℤ pos 1)
    go true e q r er h =
        let less : d < c = let t = some_same (nat_le c d) false h in grind (arith, nat_tests, t) in
        let same : x i ≡ x j = ap x (equal i j e) in
        omega (arith, ints, less, same)
    go false e true r er h = absurd (true≢false (some_same true false h))
    go false e false true er h = holds j i _ er
    go false e false false er h = absurd (none-some false h)

-- yes stays where more is known
pub yes_stays : (known wider : Known) → IsWithinKnown known wider → (i c j d : ℕ) → compared known i c j d ≡ Some true → compared wider i c j d ≡ Some true
yes_stays known wider within i c j d h = go (nat_eq i j) (known i j (pos d -ℤ pos c)) refl (wider i j (pos d -ℤ pos c)) refl (known j i ((pos c -ℤ pos d) -ℤ pos 1)) (wider j i ((pos c -ℤ pos d) -ℤ pos 1)) h
  where
    go : (p q : Bool) → known i j (pos d -ℤ pos c) ≡ q → (q' : Bool) → wider i j (pos d -ℤ pos c) ≡ q' → (r r' : Bool) →
        (if p then Some (nat_le c d) else (if q then Some true else (if r then Some false else None))) ≡ Some true →
        (if p then Some (nat_le c d) else (if q' then Some true else (if r' then Some false else None))) ≡ Some true
    go true q e q' e' r r' h = h
    go false true e true e' r r' h = refl
    go false true e false e' r r' h = absurd (true≢false (sym (within i j _ e) ∙ e'))
    go false false e q' e' true r' h = absurd (true≢false (sym (some_same false true h)))
    go false false e q' e' false r' h = absurd (none-some true h)

-- ---- more facts

pub right_append : (path : Path) (facts more : List Fact) → AreRight path facts → AreRight path more → AreRight path (facts ++ more)
right_append path [] more h k = k
right_append path (f ∷ facts) more h k = (h.0, right_append path facts more h.1 k)

or_right : (p q : Bool) → q ≡ true → (p || q) ≡ true
or_right true q e = refl
or_right false q e = e

pub within_append : (facts more : List Fact) → IsWithinKnown (listed facts) (listed (facts ++ more))
within_append [] more i j w h = absurd (false≢true h)
within_append (f ∷ facts) more i j w h = elim (or_cases (fact_says f i j w) (listed facts i j w) h) [
  | inl here ↦ ap (λ b. b || listed (facts ++ more) i j w) here
  | inr there ↦ or_right (fact_says f i j w) (listed (facts ++ more) i j w) (within_append facts more i j w there)
]

-- facts that came after others
abbrev pub AreAfter : Path → ℕ → List Fact → List Fact → Type 0
AreAfter path n old new = (more : List Fact) × (new ≡ old ++ more) × AreRight path more × All (IsFact n) more

append_twice : (a b c : List Fact) → (a ++ b) ++ c ≡ a ++ (b ++ c)
append_twice [] b c = refl
append_twice (f ∷ a) b c = ap (λ (fs : List Fact). f ∷ fs) (append_twice a b c)

pub after_twice : (path other : Path) (n m : ℕ) (old one two : List Fact) → other ≡ path → m ≡ n → AreAfter path n old one → AreAfter other m one two → AreAfter path n old two
after_twice path other n m old one two e d h k = (
  h.0 ++ k.0,
  k.1 ∙ (ap (λ (fs : List Fact). fs ++ k.0) h.1 ∙ append_twice old h.0 k.0),
  right_append path h.0 k.0 h.2 (subst (λ (p : Path). AreRight p k.0) e k.2),
  All-append (IsFact n) h.0 k.0 h.3 (subst (λ (o : ℕ). All (IsFact o) k.0) d k.3),
)

-- ---- the forms of the outputs

pub form_over : (task : Task) (s : Stages) (first second : Term) → IsWhole task s first second → (place : ℕ) → place < length task.nodes → IsFormOver s.inputs (form_at s.now.forms place)
form_over task s first second w place lt =
    subst (λ (n : ℕ). IsFormOver n (form_at s.now.forms place)) w.inputs
    (subst (IsFormOver task.inputs) (sym (w.stage.forms place (let h = w.whole in omega (arith, lt, h))))
    (of_form (term_form (listed s.now.facts) (tree task.nodes place)) refl))
  where
    of_form : (f : Form) → term_form (listed s.now.facts) (tree task.nodes place) ≡ f → IsFormOver task.inputs f
    of_form form.Never e = tt
    of_form form.Undecided e = tt
    of_form (form.Plus i c) e =
        let small = forms_are_small (listed s.now.facts) (tree task.nodes place) i c e in
        let short = w.is_task.short place lt in
        (forms_name_inputs (listed s.now.facts) task.nodes task.inputs w.is_task.is_nodes w.is_task.inputs_are place i c lt e, omega (arith, small, short))

pub first_within : (task : Task) (s : Stages) (first second : Term) → IsWhole task s first second → first.0 < length task.nodes
first_within task s first second w = subst (λ (rs : List Term). All (λ r. r.0 < length task.nodes) rs) w.roots w.is_task.within 0 first (omega arith)

pub second_within : (task : Task) (s : Stages) (first second : Term) → IsWhole task s first second → second.0 < length task.nodes
second_within task s first second w = subst (λ (rs : List Term). All (λ r. r.0 < length task.nodes) rs) w.roots w.is_task.within 1 second (omega arith)

names_all : (n : ℕ) (facts : List Fact) → All (IsFact n) facts → list_all (λ f. nat_lt f.from n && nat_lt f.to n) facts ≡ true
names_all n [] h = refl
names_all n (f ∷ facts) h =
    let here = h 0 f (omega arith) in
    rw (lt-ltb f.from n here.from, lt-ltb f.to n here.to) (names_all n facts (λ k d lt. h (suc k) d (omega (arith, lt))))

small_all : (n : ℕ) (facts : List Fact) → All (IsFact n) facts → AllByRecursion IsSmallFact facts
small_all n [] h = tt
small_all n (f ∷ facts) h = ((h 0 f (omega arith)).small, small_all n facts (λ k d lt. h (suc k) d (omega (arith, lt))))

below_at : (ns : List ℕ) → ((k : ℕ) → k < length ns → get_or ns k 0 ≤ 63000063) → All (λ y. y ≤ 63000063) ns
below_at [] h k d lt = absurd (omega (arith, lt))
below_at (y ∷ ns) h zero d lt = h 0 (omega arith)
below_at (y ∷ ns) h (suc k) d lt = below_at ns (λ q l. h (suc q) (omega (arith, l))) k d (omega (arith, lt))

over_is : (n : ℕ) (f : Form) → IsFormOver n f → IsOver n f
over_is n form.Never h = tt
over_is n (form.Plus i c) h = h.0
over_is n form.Undecided h = tt

module _ (task : Task) (s : Stages) (first second : Term) (w : IsWhole task s first second) where
  abbrev own_path : Path
  own_path = s.now.path

  abbrev form_of : ℕ → Form
  form_of place = form_at s.now.forms place

  form_is : (place : ℕ) → place < length task.nodes → form_of place ≡ term_form (listed s.now.facts) (tree task.nodes place)
  form_is place lt = w.stage.forms place (let h = w.whole in omega (arith, lt, h))

  decided : (place : ℕ) → place < length task.nodes → is_decided (form_of place) ≡ true
  decided place lt = w.stage.decided place form.Never (let h = w.whole in omega (arith, lt, h))

  -- the form stays as facts come
  form_stays : (new : List Fact) → AreAfter own_path s.inputs s.now.facts new → (place : ℕ) → place < length task.nodes → term_form (listed new) (tree task.nodes place) ≡ form_of place
  form_stays new after place lt =
      ap (λ (fs : List Fact). term_form (listed fs) (tree task.nodes place)) after.1
      ∙ (forms_stay own_path w.stage.possible s.now.facts (s.now.facts ++ after.0) w.stage.right (right_append own_path s.now.facts after.0 w.stage.right after.2) (within_append s.now.facts after.0)
      (tree task.nodes place) (subst (λ (f : Form). is_decided f ≡ true) (form_is place lt) (decided place lt))
      ∙ sym (form_is place lt))

  -- all facts are facts of the inputs
  pub facts_are : (new : List Fact) → AreAfter own_path s.inputs s.now.facts new → All (IsFact s.inputs) new
  facts_are new after =
      subst (λ (fs : List Fact). All (IsFact s.inputs) fs) (sym after.1)
      (All-append (IsFact s.inputs) s.now.facts after.0 (subst (λ (n : ℕ). All (IsFact n) s.now.facts) w.inputs w.stage.facts) after.3)

  new_right : (new : List Fact) → AreAfter own_path s.inputs s.now.facts new → AreRight own_path new
  new_right new after = subst (AreRight own_path) (sym after.1) (right_append own_path s.now.facts after.0 w.stage.right after.2)

  pub equal_end : (new read kept : List Fact) (m : ℕ) → read ≡ new → m ≡ s.inputs → AreAfter own_path s.inputs s.now.facts new → AreEqualForms (listed new) (form_of first.0) (form_of second.0) → AreGathered m read kept →
      IsEnding task.inputs own_path (tree task.nodes first.0) (tree task.nodes second.0) (Equal kept)
  equal_end new read kept m e d after equal gathered = (
    (names_all task.inputs kept of_inputs, record { right = gathered.right own_path (subst (AreRight own_path) (sym e) (new_right new after)); equal = equal_forms }),
    record { few = gathered.few; small = small_all task.inputs kept of_inputs },
  )
    where
      of_inputs : All (IsFact task.inputs) kept
      of_inputs = subst (λ (n : ℕ). All (IsFact n) kept) (d ∙ sym w.inputs) gathered.are_facts

      same : listed kept ≡ listed new
      same = (λ k i j v. gathered.same i j v k) ∙ ap listed e

      kept_form : (place : ℕ) → place < length task.nodes → term_form (listed kept) (tree task.nodes place) ≡ form_of place
      kept_form place lt = ap (λ (known : Known). term_form known (tree task.nodes place)) same ∙ form_stays new after place lt

      equal_forms : AreEqualForms (listed kept) (term_form (listed kept) (tree task.nodes first.0)) (term_form (listed kept) (tree task.nodes second.0))
      equal_forms =
          subst (λ (known : Known). AreEqualForms known (term_form (listed kept) (tree task.nodes first.0)) (term_form (listed kept) (tree task.nodes second.0))) (sym same)
          (subst (λ (f : Form). AreEqualForms (listed new) f (term_form (listed kept) (tree task.nodes second.0))) (sym (kept_form first.0 (first_within task s first second w)))
          (subst (λ (g : Form). AreEqualForms (listed new) (form_of first.0) g) (sym (kept_form second.0 (second_within task s first second w))) equal))

  pub different_end : (later : Path) (ns : List ℕ) (m : ℕ) → m ≡ s.inputs → (rest : Path) × (later ≡ own_path ++ rest) → IsSolution m later ns → ((x : ℕ → ℤ) → MeetsAll x later → AreFormsApart x (form_of first.0) (form_of second.0)) →
      AreApart task.inputs own_path (tree task.nodes first.0) (tree task.nodes second.0) ns
  different_end later ns m d rest solution apart = record {
    long = long;
    small = below_at ns (λ k lt. solution.small k (let l = solution.long in omega (arith, lt, l)));
    meet = met;
    differ = forms_differ ns (form_of first.0) (form_of second.0) _ _ (decided first.0 (first_within task s first second w)) (decided second.0 (second_within task s first second w))
        (over first.0 (first_within task s first second w)) (over second.0 (second_within task s first second w))
        (held first.0 (first_within task s first second w)) (held second.0 (second_within task s first second w)) (apart (integers ns) solution.meets);
  }
    where
      long : length ns ≡ task.inputs
      long = solution.long ∙ (d ∙ sym w.inputs)

      met : MeetsAll (integers ns) own_path
      met = meets_fewer (integers ns) own_path rest.0 (subst (MeetsAll (integers ns)) rest.1 solution.meets)

      over : (place : ℕ) → place < length task.nodes → IsOver (length ns) (form_of place)
      over place lt = subst (λ (n : ℕ). IsOver n (form_of place)) (sym (long ∙ w.inputs)) (over_is s.inputs (form_of place) (form_over task s first second w place lt))

      held : (place : ℕ) → place < length task.nodes → Holds (numbers ns) (form_of place) (value (numbers ns) (tree task.nodes place))
      held place lt =
          subst (λ (f : Form). Holds (numbers ns) f (value (numbers ns) (tree task.nodes place))) (sym (form_is place lt))
          (term_holds ns (listed s.now.facts) (facts_sound ns own_path s.now.facts (subst (λ (n : ℕ). All (IsFact n) s.now.facts) (sym long) w.stage.facts) w.stage.right met) (tree task.nodes place))

-- ---- which forms are apart

pub plus_apart : (x : ℕ → ℤ) (f g : Form) (i c j d : ℕ) → f ≡ form.Plus i c → g ≡ form.Plus j d → (x j -ℤ x i) ≤ℤ ((pos c -ℤ pos d) -ℤ pos 1) → AreFormsApart x f g
plus_apart x f g i c j d e h le =
    subst (λ (f : Form). AreFormsApart x f g) (sym e) (subst (λ (g : Form). AreFormsApart x (form.Plus i c) g) (sym h) (λ same. omega (arith, ints, le, same)))

pub plus_apart_back : (x : ℕ → ℤ) (f g : Form) (i c j d : ℕ) → f ≡ form.Plus i c → g ≡ form.Plus j d → (x i -ℤ x j) ≤ℤ ((pos d -ℤ pos c) -ℤ pos 1) → AreFormsApart x f g
plus_apart_back x f g i c j d e h le =
    subst (λ (f : Form). AreFormsApart x f g) (sym e) (subst (λ (g : Form). AreFormsApart x (form.Plus i c) g) (sym h) (λ same. omega (arith, ints, le, same)))

pub plus_equal : (known : Known) (f g : Form) (i c j d : ℕ) → f ≡ form.Plus i c → g ≡ form.Plus j d → compared known i c j d ≡ Some true → compared known j d i c ≡ Some true → AreEqualForms known f g
plus_equal known f g i c j d e h p q = subst (λ (f : Form). AreEqualForms known f g) (sym e) (subst (λ (g : Form). AreEqualForms known (form.Plus i c) g) (sym h) (p, q))

-- an answer, as the test that it is
pub answered : (b : Bool) (path new : Path) (facts : List Fact) (i c j d : ℕ) → AreRight new facts → new ≡ path → compared (listed facts) i c j d ≡ Some b →
    MatchBool b ((new ≡ path) × (compared (listed facts) i c j d ≡ Some true)) ((x : ℕ → ℤ) → MeetsAll x new → (x j -ℤ x i) ≤ℤ ((pos c -ℤ pos d) -ℤ pos 1))
answered true path new facts i c j d right e h = (e, h)
answered false path new facts i c j d right e h = λ x m. no_at x (listed facts) (right_holds x new m facts right) i c j d h

-- ---- a side that is assumed

pub at_some : {A : Type 0} (P : Type 0) (Q : A → Type 0) (o : Option A) (x : A) → o ≡ Some x → MatchOption o P Q → Q x
at_some P Q o x e h = subst (λ o. MatchOption o P Q) e h

pub at_none : {A : Type 0} (P : Type 0) (Q : A → Type 0) (o : Option A) → o ≡ None → MatchOption o P Q → P
at_none P Q o e h = subst (λ o. MatchOption o P Q) e h

-- the bound of the other side, as 64 bits have it
pub side_bound : (a b : ℤ) (c d : ℕ) → a ≡ pos d → b ≡ pos c → c ≤ 1000000 → d ≤ 1000000 →
    to_z w64 (of_z w64 (to_z w64 (of_z w64 (pos 0 -ℤ to_z w64 (of_z w64 (to_z w64 (of_z w64 a) -ℤ to_z w64 (of_z w64 b))))) -ℤ pos 1)) ≡ (neg_ℤ (pos d -ℤ pos c) -ℤ pos 1)
side_bound a b c d e h lc ld = omega (arith, ints, e, h, lc, ld)

pub possible_at : (old new : Path) (i j : ℕ) (v w : ℤ) → new ≡ old → v ≡ w → IsPossible (old ++ assumption i j w ∷ []) → IsPossible (new ++ assumption i j v ∷ [])
possible_at old new i j v w e h possible =
    subst (λ (p : Path). IsPossible (p ++ assumption i j v ∷ [])) (sym e) (subst (λ (u : ℤ). IsPossible (old ++ assumption i j u ∷ [])) (sym h) possible)

pub last_at : (x : ℕ → ℤ) (path later : Path) (i j c d : ℕ) (v : ℤ) → later ≡ path ++ assumption i j v ∷ [] → v ≡ (neg_ℤ (pos d -ℤ pos c) -ℤ pos 1) → MeetsAll x later → (x i -ℤ x j) ≤ℤ ((pos c -ℤ pos d) -ℤ pos 1)
last_at x path later i j c d v e h m =
    let last = meets_last x path (assumption i j v) (subst (MeetsAll x) e m) in
    omega (arith, ints, last, h)

-- ---- the two comparisons of two forms

abbrev of_forms : ℕ → ℕ → ℕ → ℕ → Comparison
of_forms i c j d = record { from = i; from_cycles = c; to = j; to_cycles = d }

abbrev IsYes : Known → Comparison → Type 0
IsYes known q = compared known q.from q.from_cycles q.to q.to_cycles ≡ Some true

abbrev IsNo : (ℕ → ℤ) → Comparison → Type 0
IsNo x q = (x q.to -ℤ x q.from) ≤ℤ ((pos q.from_cycles -ℤ pos q.to_cycles) -ℤ pos 1)

pub no_first : (x : ℕ → ℤ) (f g : Form) (i c j d : ℕ) (q : Comparison) → f ≡ form.Plus i c → g ≡ form.Plus j d → q ≡ of_forms i c j d → IsNo x q → AreFormsApart x f g
no_first x f g i c j d q e h is less = plus_apart x f g i c j d e h (subst (IsNo x) is less)

pub second_answer : {E : Type 0} (r : Result Bool E) (path one two : Path) (n : ℕ) (f g : Form) (i c j d : ℕ) (q q' : Comparison) → f ≡ form.Plus i c → g ≡ form.Plus j d → q ≡ of_forms i c j d → q' ≡ of_forms j d i c →
    (facts new : List Fact) → IsYes (listed facts) q → OnOk r (AreAfter one n facts new) →
    IfOk r (λ so. MatchBool so ((two ≡ one) × IsYes (listed new) q') ((x : ℕ → ℤ) → MeetsAll x two → IsNo x q')) →
    IfOk r (λ equal. MatchBool equal (AreEqualForms (listed new) f g) ((x : ℕ → ℤ) → MeetsAll x two → AreFormsApart x f g))
second_answer (Ok true) path one two n f g i c j d q q' e h is is' facts new first after second =
    plus_equal (listed new) f g i c j d e h
    (yes_stays (listed facts) (listed new) (subst (λ (fs : List Fact). IsWithinKnown (listed facts) (listed fs)) (sym after.1) (within_append facts after.0)) i c j d (subst (IsYes (listed facts)) is first))
    (subst (IsYes (listed new)) is' second.1)
second_answer (Ok false) path one two n f g i c j d q q' e h is is' facts new first after less = λ x m. plus_apart_back x f g i c j d e h (subst (IsNo x) is' (less x m))
second_answer (Err error) path one two n f g i c j d q q' e h is is' facts new first after k = tt

pub equal_as : (known : Known) (f g f' g' : Form) → f ≡ f' → g ≡ g' → AreEqualForms known f g → AreEqualForms known f' g'
equal_as known f g f' g' e h k = subst (λ (f : Form). AreEqualForms known f g') e (subst (AreEqualForms known f) h k)

pub apart_as : (x : ℕ → ℤ) (f g f' g' : Form) → f ≡ f' → g ≡ g' → AreFormsApart x f g → AreFormsApart x f' g'
apart_as x f g f' g' e h k = subst (λ (f : Form). AreFormsApart x f g') e (subst (AreFormsApart x f) h k)
