-- Where a path can be met, a term has a form by some facts, or an operator in it waits for a comparison that is due.
use Rattle.std.proofs.Common.{◌≡◌, ℕ, List, [], ◌∷◌, ◌++◌, refl, subst, sym, ap, ◌∙◌, arith, Bool, true, false, true≢false, ◌⊎◌, inl, inr}
use Rattle.std.specs.Prelude.{ℤ, pos, ◌-ℤ◌, ◌≤ℤ◌, nat_eq, nat_le, int_le, ◌||◌, Option, Some, None, if◌then◌else◌}
use Rattle.std.proofs.lemmas.Bool.{false≢true, cases_Bool, or_cases}
use Rattle.std.proofs.lemmas.Bool.Decides.{nat_tests}
use Rattle.std.proofs.lemmas.Int.{ints, by_lt_z}
use Rattle.refutation.specs.declared.item.Fact.{Fact}
use Rattle.refutation.specs.Path.{runs, sum_of}
use Rattle.refutation.specs.Cases.{Path}
use Rattle.diff_bounds.specs.Bounds.{CanBeMet, Implies, IsLeast}
use Rattle.diff_bounds.proofs.Cycles.{solved, least_is, IsSolved, AtMost, Within}
use Rattle.diff_bounds.proofs.Least.{none_meets, int_true}
use Rattle.diff_bounds.proofs.Ending.{and_is}
use Rattle.term_store.specs.Tree.{Tree, Never, Input, Min, Max, Lt, Inc}
use Rattle.term_store.proofs.Parts.{IsIn, in_self}
use Rattle.tree_check.specs.declared.form.Form.{Form}
use Rattle.tree_check.specs.declared.form.Form.TheVariants as form
use Rattle.tree_check.specs.Forms.{Known, compared, chosen, min_form, max_form, lt_form, inc_form, is_decided}
use Rattle.tree_check.specs.Valid.{listed, fact_says}
use Rattle.case_split.specs.TermForms.{term_form, HoldsAt, IsWithinKnown}
use Rattle.case_split.specs.Decided.{AreRight, IsPlus, IsOpen}
use Rattle.case_split.specs.Live.{Compares}
use Rattle.case_split.proofs.Stays.{stays, right_holds, compared_stays}
use Rattle.case_split.proofs.Judged.{right_append, within_append}

-- ---- what is implied is shown

pub implied_chain : (path : Path) (i j : ℕ) (w : ℤ) → CanBeMet path → Implies path i j w → Within path i j w
implied_chain path i j w met all = elim (solved path) [
  | inr r ↦ absurd (none_meets met.0 path r.0 met.1 r.1)
  | inl s ↦ go s (s.sums i j) refl (least_is path s.sums s.x i j s.table s.meets)
]
  where
    go : (s : IsSolved path) (o : Option ℤ) → s.sums i j ≡ o → IsLeast path i j (s.sums i j) → Within path i j w
    go s None e least = absurd (subst (IsLeast path i j) e least w all)
    go s (Some v) e least =
        let le = (subst (IsLeast path i j) e least).1 w all in
        let way = s.table.shown i j v (subst (λ o. AtMost o v) (sym e) (omega (arith, ints))) in
        let sum = way.2 in
        (way.0, way.1, omega (arith, ints, le, sum))

-- a fact with a chain that shows it
pub shown_fact : (path : Path) (i j : ℕ) (w : ℤ) → Within path i j w → (f : Fact) × AreRight path (f ∷ []) × (listed (f ∷ []) i j w ≡ true)
shown_fact path i j w way = (
  record { from = i; to = j; bound = w; chain = way.0 },
  (and_is (runs path i j way.0) _ way.1 (int_true (sum_of path way.0) w way.2), tt),
  rw (same i, same j, least w) refl,
)
  where
    same : (n : ℕ) → nat_eq n n ≡ true
    same n = grind (arith, nat_tests)

    least : (v : ℤ) → int_le v v ≡ true
    least v = int_true v v (omega (arith, ints))

-- ---- lists of facts together

or_right : (p q : Bool) → q ≡ true → (p || q) ≡ true
or_right true q e = refl
or_right false q e = e

pub within_last : (facts more : List Fact) → IsWithinKnown (listed more) (listed (facts ++ more))
within_last [] more i j w h = h
within_last (f ∷ facts) more i j w h = or_right (fact_says f i j w) (listed (facts ++ more) i j w) (within_last facts more i j w h)

or_left : (p q : Bool) → p ≡ true → (p || q) ≡ true
or_left p q e = ap (λ b. b || q) e

pub holds_append : (x : ℕ → ℤ) (facts more : List Fact) → HoldsAt x (listed facts) → HoldsAt x (listed more) → HoldsAt x (listed (facts ++ more))
holds_append x [] more a b i j w h = b i j w h
holds_append x (f ∷ facts) more a b i j w h = elim (or_cases (fact_says f i j w) (listed (facts ++ more) i j w) h) [
  | inl here ↦ a i j w (or_left (fact_says f i j w) (listed facts i j w) here)
  | inr there ↦ holds_append x facts more (λ i j w k. a i j w (or_right (fact_says f i j w) (listed facts i j w) k)) b i j w there
]

-- ---- forms, or a comparison that is due

-- the term has a form by facts that the path shows
pub record HasForm (path : Path) (t : Tree) : Type 0 where
  pub facts : List Fact
  pub right : AreRight path facts
  pub decided : is_decided (term_form (listed facts) t) ≡ true

-- an operator in the term waits for a comparison that the path leaves open
pub record HasDue (path : Path) (t : Tree) : Type 0 where
  pub i : ℕ
  pub c : ℕ
  pub j : ℕ
  pub d : ℕ
  pub operator : Tree
  pub a : Tree
  pub b : Tree
  pub inside : IsIn operator t
  pub compares : Compares operator a b
  pub a_is : IsPlus path a i c
  pub b_is : IsPlus path b j d
  pub undecided : IsOpen path i c j d

-- facts decide the comparison
record HasAnswer (path : Path) (i c j d : ℕ) : Type 0 where
  facts : List Fact
  right : AreRight path facts
  answer : Bool
  is : compared (listed facts) i c j d ≡ Some answer

at_most_or : (o : Option ℤ) (w : ℤ) → AtMost o w ⊎ (AtMost o w → ⊥)
at_most_or None w = inr (λ h. h)
at_most_or (Some v) w = by_lt_z {P = (v ≤ℤ w) ⊎ ((v ≤ℤ w) → ⊥)} w v (λ lt. inr (λ le. omega (arith, ints, lt, le))) (λ le. inl le)

least_at : (path : Path) (i j : ℕ) (w : ℤ) (o : Option ℤ) → IsLeast path i j o → Implies path i j w → AtMost o w
least_at path i j w None least all = absurd (least w all)
least_at path i j w (Some v) least all = least.1 w all

test_answer : (p e q r : Bool) → (p ≡ true) ⊎ ((q ≡ true) ⊎ (r ≡ true)) → (b : Bool) × ((if p then Some e else (if q then Some true else (if r then Some false else None))) ≡ Some b)
test_answer true e q r h = (e, refl)
test_answer false e true r h = (true, refl)
test_answer false e false true h = (false, refl)
test_answer false e false false h = elim h [ inl a ↦ absurd (false≢true a) | inr k ↦ elim k [ inl a ↦ absurd (false≢true a) | inr a ↦ absurd (false≢true a) ] ]

answered : (known : Known) (i c j d : ℕ) → (nat_eq i j ≡ true) ⊎ ((known i j (pos d -ℤ pos c) ≡ true) ⊎ (known j i ((pos c -ℤ pos d) -ℤ pos 1) ≡ true)) → (b : Bool) × (compared known i c j d ≡ Some b)
answered known i c j d h = test_answer (nat_eq i j) (nat_le c d) (known i j (pos d -ℤ pos c)) (known j i ((pos c -ℤ pos d) -ℤ pos 1)) h

test_none : (p e q r : Bool) → p ≡ false → (q ≡ true → ⊥) → (r ≡ true → ⊥) → (if p then Some e else (if q then Some true else (if r then Some false else None))) ≡ None
test_none true e q r h f g = absurd (true≢false h)
test_none false e true r h f g = absurd (f refl)
test_none false e false true h f g = absurd (g refl)
test_none false e false false h f g = refl

-- facts decide a comparison, or it is open
answer_or_open : (path : Path) (i c j d : ℕ) → CanBeMet path → HasAnswer path i c j d ⊎ IsOpen path i c j d
answer_or_open path i c j d met = elim (solved path) [
  | inr r ↦ absurd (none_meets met.0 path r.0 met.1 r.1)
  | inl s ↦ elim (cases_Bool (nat_eq i j)) [
    | inl e ↦ let a = answered (listed []) i c j d (inl e) in inl (record { facts = []; right = tt; answer = a.0; is = a.1 })
    | inr e ↦ elim (at_most_or (s.sums i j) (pos d -ℤ pos c)) [
      | inl h ↦
          let f = shown_fact path i j (pos d -ℤ pos c) (s.table.shown i j _ h) in
          let a = answered (listed (f.0 ∷ [])) i c j d (inr (inl f.2)) in
          inl (record { facts = f.0 ∷ []; right = f.1; answer = a.0; is = a.1 })
      | inr n ↦ elim (at_most_or (s.sums j i) ((pos c -ℤ pos d) -ℤ pos 1)) [
        | inl h ↦
            let f = shown_fact path j i ((pos c -ℤ pos d) -ℤ pos 1) (s.table.shown j i _ h) in
            let a = answered (listed (f.0 ∷ [])) i c j d (inr (inr f.2)) in
            inl (record { facts = f.0 ∷ []; right = f.1; answer = a.0; is = a.1 })
        | inr m ↦ inr (λ facts right.
            test_none (nat_eq i j) (nat_le c d) (listed facts i j (pos d -ℤ pos c)) (listed facts j i ((pos c -ℤ pos d) -ℤ pos 1)) e
            (λ k. n (least_at path i j _ (s.sums i j) (least_is path s.sums s.x i j s.table s.meets) (λ x mx. right_holds x path mx facts right i j _ k)))
            (λ k. m (least_at path j i _ (s.sums j i) (least_is path s.sums s.x j i s.table s.meets) (λ x mx. right_holds x path mx facts right j i _ k))))
      ]
    ]
  ]
]

-- a form by fewer facts is one by more
still_first : (path : Path) (facts more : List Fact) (t : Tree) → CanBeMet path → AreRight path facts → AreRight path more → is_decided (term_form (listed facts) t) ≡ true → is_decided (term_form (listed (facts ++ more)) t) ≡ true
still_first path facts more t met right right' h =
    let all = holds_append met.0 facts more (right_holds met.0 path met.1 facts right) (right_holds met.0 path met.1 more right') in
    ap is_decided (stays met.0 (listed facts) (listed (facts ++ more)) (within_append facts more) all t h) ∙ h

still_last : (path : Path) (facts more : List Fact) (t : Tree) → CanBeMet path → AreRight path facts → AreRight path more → is_decided (term_form (listed more) t) ≡ true → is_decided (term_form (listed (facts ++ more)) t) ≡ true
still_last path facts more t met right right' h =
    let all = holds_append met.0 facts more (right_holds met.0 path met.1 facts right) (right_holds met.0 path met.1 more right') in
    ap is_decided (stays met.0 (listed more) (listed (facts ++ more)) (within_last facts more) all t h) ∙ h

chosen_decided : (o : Option Bool) (b : Bool) (f g : Form) → o ≡ Some b → is_decided f ≡ true → is_decided g ≡ true → is_decided (chosen o f g) ≡ true
chosen_decided o b f g e df dg = subst (λ o. is_decided (chosen o f g) ≡ true) (sym e) (go b)
  where
    go : (b : Bool) → is_decided (chosen (Some b) f g) ≡ true
    go true = df
    go false = dg

-- the forms are both an input plus a constant, or one is never
BothPlus : Form → Form → Type 0
BothPlus f g = (i : ℕ) × (c : ℕ) × (j : ℕ) × (d : ℕ) × (f ≡ form.Plus i c) × (g ≡ form.Plus j d)

both_or : (f g : Form) → is_decided f ≡ true → is_decided g ≡ true → BothPlus f g ⊎ ((f ≡ form.Never) ⊎ (g ≡ form.Never))
unfolding BothPlus
both_or form.Never g df dg = inr (inl refl)
both_or (form.Plus i c) form.Never df dg = inr (inr refl)
both_or (form.Plus i c) (form.Plus j d) df dg = inl (i, c, j, d, refl, refl)
both_or (form.Plus i c) form.Undecided df dg = absurd (false≢true dg)
both_or form.Undecided g df dg = absurd (false≢true df)

is_plus : Form → Bool
is_plus (form.Plus i c) = true
is_plus f = false

plus_never : (i c : ℕ) → form.Plus i c ≡ form.Never → ⊥
unfolding is_plus
plus_never i c e = true≢false (ap is_plus e)

min_never : (known : Known) (f g : Form) → is_decided f ≡ true → is_decided g ≡ true → (f ≡ form.Never) ⊎ (g ≡ form.Never) → is_decided (min_form known f g) ≡ true
min_never known form.Never g df dg h = dg
min_never known (form.Plus i c) form.Never df dg h = refl
min_never known (form.Plus i c) (form.Plus j d) df dg h = absurd (elim h [ inl e ↦ plus_never i c e | inr e ↦ plus_never j d e ])
min_never known (form.Plus i c) form.Undecided df dg h = absurd (false≢true dg)
min_never known form.Undecided g df dg h = absurd (false≢true df)

max_never : (known : Known) (f g : Form) → is_decided f ≡ true → is_decided g ≡ true → (f ≡ form.Never) ⊎ (g ≡ form.Never) → is_decided (max_form known f g) ≡ true
max_never known form.Never form.Never df dg h = refl
max_never known form.Never (form.Plus j d) df dg h = refl
max_never known form.Never form.Undecided df dg h = absurd (false≢true dg)
max_never known (form.Plus i c) form.Never df dg h = refl
max_never known (form.Plus i c) (form.Plus j d) df dg h = absurd (elim h [ inl e ↦ plus_never i c e | inr e ↦ plus_never j d e ])
max_never known (form.Plus i c) form.Undecided df dg h = absurd (false≢true dg)
max_never known form.Undecided g df dg h = absurd (false≢true df)

lt_never : (known : Known) (f g : Form) → is_decided f ≡ true → is_decided g ≡ true → (f ≡ form.Never) ⊎ (g ≡ form.Never) → is_decided (lt_form known f g) ≡ true
lt_never known form.Never form.Never df dg h = refl
lt_never known form.Never (form.Plus j d) df dg h = refl
lt_never known form.Never form.Undecided df dg h = absurd (false≢true dg)
lt_never known (form.Plus i c) form.Never df dg h = refl
lt_never known (form.Plus i c) (form.Plus j d) df dg h = absurd (elim h [ inl e ↦ plus_never i c e | inr e ↦ plus_never j d e ])
lt_never known (form.Plus i c) form.Undecided df dg h = absurd (false≢true dg)
lt_never known form.Undecided g df dg h = absurd (false≢true df)

swap_never : (f g : Form) → (f ≡ form.Never) ⊎ (g ≡ form.Never) → (g ≡ form.Never) ⊎ (f ≡ form.Never)
swap_never f g h = elim h [ inl e ↦ inr e | inr e ↦ inl e ]

operator_never : (known : Known) (t a b : Tree) → Compares t a b → is_decided (term_form known a) ≡ true → is_decided (term_form known b) ≡ true → (term_form known a ≡ form.Never) ⊎ (term_form known b ≡ form.Never) →
    is_decided (term_form known t) ≡ true
operator_never known t a b is da db h = elim is [
  | inl e ↦ ap (λ t. is_decided (term_form known t)) e ∙ min_never known (term_form known a) (term_form known b) da db h
  | inr r ↦ elim r [
    | inl e ↦ ap (λ t. is_decided (term_form known t)) e ∙ max_never known (term_form known a) (term_form known b) da db h
    | inr e ↦ ap (λ t. is_decided (term_form known t)) e ∙ lt_never known (term_form known b) (term_form known a) db da (swap_never (term_form known a) (term_form known b) h)
  ]
]

operator_chosen : (known : Known) (t a b : Tree) (i c j d : ℕ) (o : Bool) → Compares t a b → term_form known a ≡ form.Plus i c → term_form known b ≡ form.Plus j d → compared known i c j d ≡ Some o → is_decided (term_form known t) ≡ true
operator_chosen known t a b i c j d o is ea eb h = elim is [
  | inl e ↦ ap (λ t. is_decided (term_form known t)) e ∙ (ap is_decided (λ k. min_form known (ea k) (eb k)) ∙ chosen_decided (compared known i c j d) o (form.Plus i c) (form.Plus j d) h refl refl)
  | inr r ↦ elim r [
    | inl e ↦ ap (λ t. is_decided (term_form known t)) e ∙ (ap is_decided (λ k. max_form known (ea k) (eb k)) ∙ chosen_decided (compared known i c j d) o (form.Plus j d) (form.Plus i c) h refl refl)
    | inr e ↦ ap (λ t. is_decided (term_form known t)) e ∙ (ap is_decided (λ k. lt_form known (eb k) (ea k)) ∙ chosen_decided (compared known i c j d) o form.Never (form.Plus j d) h refl refl)
  ]
]

operator : (path : Path) (t a b : Tree) → CanBeMet path → Compares t a b → HasForm path a → HasForm path b → HasForm path t ⊎ HasDue path t
unfolding BothPlus
operator path t a b met is fa fb = elim (both_or (term_form (listed all) a) (term_form (listed all) b) da db) [
  | inr h ↦ inl (record { facts = all; right = all_right; decided = operator_never (listed all) t a b is da db h })
  | inl p ↦ elim (answer_or_open path p.0 p.1 p.2 p.3 met) [
    | inl q ↦ inl (record {
      facts = all ++ q.facts;
      right = right_append path all q.facts all_right q.right;
      decided = operator_chosen (listed (all ++ q.facts)) t a b p.0 p.1 p.2 p.3 q.answer is
          (stays met.0 (listed all) (listed (all ++ q.facts)) (within_append all q.facts) (wider q.facts q.right) a da ∙ p.4)
          (stays met.0 (listed all) (listed (all ++ q.facts)) (within_append all q.facts) (wider q.facts q.right) b db ∙ p.5)
          (compared_stays met.0 (listed q.facts) (listed (all ++ q.facts)) (within_last all q.facts) (wider q.facts q.right) p.0 p.1 p.2 p.3 q.answer q.is);
    })
    | inr undecided ↦ inr (record {
      i = p.0;
      c = p.1;
      j = p.2;
      d = p.3;
      operator = t;
      a = a;
      b = b;
      inside = in_self t;
      compares = is;
      a_is = (all, all_right, p.4);
      b_is = (all, all_right, p.5);
      undecided = undecided;
    })
  ]
]
  where
    all : List Fact
    all = fa.facts ++ fb.facts

    all_right : AreRight path all
    all_right = right_append path fa.facts fb.facts fa.right fb.right

    da : is_decided (term_form (listed all) a) ≡ true
    da = still_first path fa.facts fb.facts a met fa.right fb.right fa.decided

    db : is_decided (term_form (listed all) b) ≡ true
    db = still_last path fa.facts fb.facts b met fa.right fb.right fb.decided

    wider : (more : List Fact) → AreRight path more → HoldsAt met.0 (listed (all ++ more))
    wider more right = holds_append met.0 all more (right_holds met.0 path met.1 all all_right) (right_holds met.0 path met.1 more right)

-- what is due in a part is due in the term
due_in : (path : Path) (s t : Tree) → ((u : Tree) → IsIn u s → IsIn u t) → HasDue path s → HasDue path t
due_in path s t inside due = record {
  i = due.i;
  c = due.c;
  j = due.j;
  d = due.d;
  operator = due.operator;
  a = due.a;
  b = due.b;
  inside = inside due.operator due.inside;
  compares = due.compares;
  a_is = due.a_is;
  b_is = due.b_is;
  undecided = due.undecided;
}

pub form_or_due : (path : Path) (t : Tree) → CanBeMet path → HasForm path t ⊎ HasDue path t
form_or_due path Never met = inl (record { facts = []; right = tt; decided = refl })
form_or_due path (Input i) met = inl (record { facts = []; right = tt; decided = refl })
form_or_due path (Min a b) met = elim (form_or_due path a met) [
  | inr due ↦ inr (due_in path a (Min a b) (λ u k. inr (inl k)) due)
  | inl fa ↦ elim (form_or_due path b met) [
    | inr due ↦ inr (due_in path b (Min a b) (λ u k. inr (inr k)) due)
    | inl fb ↦ operator path (Min a b) a b met (inl refl) fa fb
  ]
]
form_or_due path (Max a b) met = elim (form_or_due path a met) [
  | inr due ↦ inr (due_in path a (Max a b) (λ u k. inr (inl k)) due)
  | inl fa ↦ elim (form_or_due path b met) [
    | inr due ↦ inr (due_in path b (Max a b) (λ u k. inr (inr k)) due)
    | inl fb ↦ operator path (Max a b) a b met (inr (inl refl)) fa fb
  ]
]
form_or_due path (Lt a b) met = elim (form_or_due path a met) [
  | inr due ↦ inr (due_in path a (Lt a b) (λ u k. inr (inl k)) due)
  | inl fa ↦ elim (form_or_due path b met) [
    | inr due ↦ inr (due_in path b (Lt a b) (λ u k. inr (inr k)) due)
    | inl fb ↦ operator path (Lt a b) b a met (inr (inr refl)) fb fa
  ]
]
form_or_due path (Inc a c) met = elim (form_or_due path a met) [
  | inr due ↦ inr (due_in path a (Inc a c) (λ u k. inr k) due)
  | inl fa ↦ inl (record { facts = fa.facts; right = fa.right; decided = inc_decided (term_form (listed fa.facts) a) c fa.decided })
]
  where
    inc_decided : (f : Form) (c : ℕ) → is_decided f ≡ true → is_decided (inc_form f c) ≡ true
    inc_decided form.Never c h = refl
    inc_decided (form.Plus i b) c h = refl
    inc_decided form.Undecided c h = absurd (false≢true h)
