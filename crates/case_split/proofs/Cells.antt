-- The facts of a leaf say what all facts say.
use Rattle.std.proofs.Common.{◌≡◌, ℕ, zero, suc, ◌+◌, ◌*◌, ◌≤◌, ◌<◌, List, [], ◌∷◌, ◌++◌, length, take, refl, sym, ap, subst, ◌∙◌, arith, Bool, true, false, ◌⊎◌, inl, inr, eq-eqb, get_or-set_same, get_or-set_other, get_or, to_z, of_z, w32}
use Rattle.std.specs.Prelude.{ℤ, pos, ◌≤ℤ◌, int_le, nat_eq, ◌&&◌, ◌||◌, slice_index_or, slice_set, Option, Some, None}
use Rattle.std.specs.List.{All, AllByRecursion}
use Rattle.std.proofs.lemmas.Bool.{false≢true, or_cases, cases_eq, cases_lt}
use Rattle.std.proofs.lemmas.Option.{none-some}
use Rattle.std.proofs.lemmas.List.{length-set, get_or_past, take_more}
use Rattle.std.proofs.lemmas.Int.{ints}
use Rattle.refutation.specs.declared.item.Fact.{Fact}
use Rattle.refutation.specs.Limits.{IsSmallBound}
use Rattle.tree_check.specs.Valid.{is_right, fact_says, listed}
use Rattle.tree_check.proofs.Chains.{and_true, at_most, equal}
use Rattle.case_split.specs.Task.{IsFact}
use Rattle.case_split.specs.Gathered.{fact_at, IsOn, IsLeastPlace, IsLeastOf, cell_at, AreLeastPlaces, facts_in, AreGathered}

-- ---- the cells

some_is : {A : Type 0} (a b : A) → Some a ≡ Some b → a ≡ b
some_is a b e = ap (or_else a) e
  where
    or_else : {A : Type 0} → A → Option A → A
    or_else d (Some x) = x
    or_else d None = d

-- before the first fact
pub none_noted : (n : ℕ) (facts : List Fact) (cells : List (Option ℕ)) → length cells ≡ n * 64 → ((cell : ℕ) → cell < n * 64 → slice_index_or cells cell None ≡ None) → AreLeastPlaces n facts 0 cells
none_noted n facts cells long none = record {
  long = long;
  before = λ cell place e. absurd (none-some place (sym (nowhere cell) ∙ e));
  least = λ i j lt lt'. subst (IsLeastOf facts 0 i j) (sym (none (i * 64 + j) (omega (arith, lt, lt')))) (λ other l on. omega (arith, l));
}
  where
    nowhere : (cell : ℕ) → slice_index_or cells cell None ≡ None
    nowhere cell = elim (cases_lt cell (n * 64)) [ inl lt ↦ none cell lt | inr ge ↦ get_or_past cells cell None (omega (arith, ge, long)) ]

module _ (n : ℕ) (facts : List Fact) (k : ℕ) (cells : List (Option ℕ)) (table : AreLeastPlaces n facts k cells) (i0 j0 : ℕ) (on : IsOn facts i0 j0 k) where
  -- what is last of the first k + 1
  last_or : (other : ℕ) → other < k + 1 → (other < k) ⊎ (other ≡ k)
  last_or other l = elim (cases_lt other k) [ inl b ↦ inl b | inr ge ↦ inr (omega (arith, l, ge)) ]

  -- the cell of other inputs stays
  stays_other : (i j : ℕ) (o : Option ℕ) → (i0 ≡ i → j0 ≡ j → ⊥) → IsLeastOf facts k i j o → IsLeastOf facts (k + 1) i j o
  stays_other i j None ne h = λ other l on'. elim (last_or other l) [
    | inl b ↦ h other b on'
    | inr e ↦ ne (sym on.from ∙ (ap (λ p. (fact_at facts p).from) (sym e) ∙ on'.from)) (sym on.to ∙ (ap (λ p. (fact_at facts p).to) (sym e) ∙ on'.to))
  ]
  stays_other i j (Some p) ne h = record {
    before = let b = h.before in omega (arith, b);
    on = h.on;
    least = λ other l on'. elim (last_or other l) [
      | inl b ↦ h.least other b on'
      | inr e ↦ absurd (ne (sym on.from ∙ (ap (λ p. (fact_at facts p).from) (sym e) ∙ on'.from)) (sym on.to ∙ (ap (λ p. (fact_at facts p).to) (sym e) ∙ on'.to)))
    ];
  }

  -- the cell's fact has no greater bound
  stays_less : (p : ℕ) → (fact_at facts p).bound ≤ℤ (fact_at facts k).bound → IsLeastPlace facts k i0 j0 p → IsLeastPlace facts (k + 1) i0 j0 p
  stays_less p le h = record {
    before = let b = h.before in omega (arith, b);
    on = h.on;
    least = λ other l on'. elim (last_or other l) [
      | inl b ↦ h.least other b on'
      | inr e ↦ subst (λ q. (fact_at facts p).bound ≤ℤ (fact_at facts q).bound) (sym e) le
    ];
  }

  pub noted_before : (p : ℕ) → cell_at cells i0 j0 ≡ Some p → (fact_at facts p).bound ≤ℤ (fact_at facts k).bound → AreLeastPlaces n facts (k + 1) cells
  noted_before p is le = record {
    long = table.long;
    before = λ cell place e. let b = table.before cell place e in omega (arith, b);
    least = λ i j lt lt'. elim (cases_eq i0 i) [
      | inr ne ↦ stays_other i j (cell_at cells i j) (λ a b. ne a) (table.least i j lt lt')
      | inl a ↦ elim (cases_eq j0 j) [
        | inr ne ↦ stays_other i j (cell_at cells i j) (λ a b. ne b) (table.least i j lt lt')
        | inl b ↦ here i j a b lt lt'
      ]
    ];
  }
    where
      here : (i j : ℕ) → i0 ≡ i → j0 ≡ j → i < n → j < 64 → IsLeastOf facts (k + 1) i j (cell_at cells i j)
      here i j a b lt lt' =
          subst (λ i. IsLeastOf facts (k + 1) i j (cell_at cells i j)) a
          (subst (λ j. IsLeastOf facts (k + 1) i0 j (cell_at cells i0 j)) b
          (subst (IsLeastOf facts (k + 1) i0 j0) (sym is)
          (stays_less p le (subst (IsLeastOf facts k i0 j0) is (table.least i0 j0 (omega (arith, a, lt)) (omega (arith, b, lt')))))))

  -- the cell has none, or one with a greater bound
  abbrev pub IsWorse : Option ℕ → Type 0
  IsWorse None = Unit {0}
  IsWorse (Some p) = (fact_at facts k).bound ≤ℤ (fact_at facts p).bound

  becomes : (o : Option ℕ) → IsWorse o → IsLeastOf facts k i0 j0 o → IsLeastPlace facts (k + 1) i0 j0 k
  becomes None w h = record {
    before = omega arith;
    on = on;
    least = λ other l on'. elim (last_or other l) [
      | inl b ↦ absurd (h other b on')
      | inr e ↦ subst (λ q. (fact_at facts k).bound ≤ℤ (fact_at facts q).bound) (sym e) (omega (arith, ints))
    ];
  }
  becomes (Some p) w h = record {
    before = omega arith;
    on = on;
    least = λ other l on'. elim (last_or other l) [
      | inl b ↦ let c = h.least other b on' in omega (arith, ints, w, c)
      | inr e ↦ subst (λ q. (fact_at facts k).bound ≤ℤ (fact_at facts q).bound) (sym e) (omega (arith, ints))
    ];
  }

  pub noted_now : i0 < n → j0 < 64 → IsWorse (cell_at cells i0 j0) → AreLeastPlaces n facts (k + 1) (slice_set cells (i0 * 64 + j0) (Some k))
  noted_now lt0 lt0' worse = record {
    long = length-set cells _ _ ∙ table.long;
    before = λ cell place e. elim (cases_eq (i0 * 64 + j0) cell) [
      | inl a ↦ let b = some_is k place (sym (subst (λ c. slice_index_or (slice_set cells (i0 * 64 + j0) (Some k)) c None ≡ Some k) a set_here) ∙ e) in omega (arith, b)
      | inr ne ↦ let b = table.before cell place (sym (get_or-set_other cells (i0 * 64 + j0) cell (Some k) None (λ d. ne (sym d))) ∙ e) in omega (arith, b)
    ];
    least = λ i j lt lt'. elim (cases_eq (i0 * 64 + j0) (i * 64 + j)) [
      | inl a ↦ here i j (omega (arith, a, lt', lt0')) (omega (arith, a, lt', lt0'))
      | inr ne ↦
          subst (IsLeastOf facts (k + 1) i j) (sym (get_or-set_other cells (i0 * 64 + j0) (i * 64 + j) (Some k) None (λ d. ne (sym d))))
          (stays_other i j (cell_at cells i j) (λ a b. ne (omega (arith, a, b))) (table.least i j lt lt'))
    ];
  }
    where
      set_here : slice_index_or (slice_set cells (i0 * 64 + j0) (Some k)) (i0 * 64 + j0) None ≡ Some k
      set_here = let long = table.long in get_or-set_same cells (i0 * 64 + j0) (Some k) None (omega (arith, long, lt0, lt0'))

      here : (i j : ℕ) → i0 ≡ i → j0 ≡ j → IsLeastOf facts (k + 1) i j (slice_index_or (slice_set cells (i0 * 64 + j0) (Some k)) (i * 64 + j) None)
      here i j a b =
          subst (λ i. IsLeastOf facts (k + 1) i j (slice_index_or (slice_set cells (i0 * 64 + j0) (Some k)) (i * 64 + j) None)) a
          (subst (λ j. IsLeastOf facts (k + 1) i0 j (slice_index_or (slice_set cells (i0 * 64 + j0) (Some k)) (i0 * 64 + j) None)) b
          (subst (IsLeastOf facts (k + 1) i0 j0) (sym set_here)
          (becomes (cell_at cells i0 j0) worse (table.least i0 j0 lt0 lt0'))))

pub fact_is : (facts : List Fact) (p : ℕ) (f : Fact) → p < length facts → f ≡ get_or facts p f → fact_at facts p ≡ f
fact_is [] p f lt e = absurd (omega (arith, lt))
fact_is (g ∷ facts) zero f lt e = sym e
fact_is (g ∷ facts) (suc p) f lt e = fact_is facts p f (omega (arith, lt)) e

-- a small bound is read as it is
bound_read : (b : ℤ) → IsSmallBound b → to_z w32 (of_z w32 b) ≡ b
bound_read b small = let lo = small.low in let hi = small.high in omega (arith, ints, lo, hi)

-- ---- the cell of a fact

module _ (n : ℕ) (facts : List Fact) (k : ℕ) (cells : List (Option ℕ)) (table : AreLeastPlaces n facts k cells) (are : All (IsFact n) facts) (lt : k < length facts)
    (f : Fact) (f_is : f ≡ get_or facts k f) (i j : ℕ) (from : i ≡ f.from) (to : j ≡ f.to) where
  is_fact_at : (p : ℕ) → p < length facts → IsFact n (fact_at facts p)
  is_fact_at p l = are p (record { from = 0; to = 0; bound = pos 0; chain = [] }) l

  is_last : fact_at facts k ≡ f
  is_last = fact_is facts k f lt f_is

  is_on : IsOn facts i j k
  is_on = record { from = ap (λ (g : Fact). g.from) is_last ∙ sym from; to = ap (λ (g : Fact). g.to) is_last ∙ sym to }

  from_below : i < n
  from_below = let h = (is_fact_at k lt).from in let e = is_on.from in omega (arith, h, e)

  to_below : j < 64
  to_below = let h = (is_fact_at k lt).small.difference.to in let e = is_on.to in omega (arith, h, e)

  pub noted_first : slice_index_or cells (i * 64 + j) None ≡ None → AreLeastPlaces n facts (k + 1) (slice_set cells (i * 64 + j) (Some k))
  noted_first none = noted_now n facts k cells table i j is_on from_below to_below (subst (IsWorse n facts k cells table i j is_on) (sym none) tt)

  module _ (p : ℕ) (g : Fact) (is : slice_index_or cells (i * 64 + j) None ≡ Some p) (g_is : g ≡ get_or facts p g) where
    p_below : p < length facts
    p_below = let b = table.before (i * 64 + j) p is in omega (arith, b, lt)

    is_other : fact_at facts p ≡ g
    is_other = fact_is facts p g p_below g_is

    last_read : to_z w32 (of_z w32 f.bound) ≡ (fact_at facts k).bound
    last_read = ap (λ (h : Fact). to_z w32 (of_z w32 h.bound)) (sym is_last) ∙ bound_read (fact_at facts k).bound (is_fact_at k lt).small.difference.bound

    other_read : to_z w32 (of_z w32 g.bound) ≡ (fact_at facts p).bound
    other_read = ap (λ (h : Fact). to_z w32 (of_z w32 h.bound)) (sym is_other) ∙ bound_read (fact_at facts p).bound (is_fact_at p p_below).small.difference.bound

    pub noted_less : int_le (to_z w32 (of_z w32 g.bound)) (to_z w32 (of_z w32 f.bound)) ≡ false → AreLeastPlaces n facts (k + 1) (slice_set cells (i * 64 + j) (Some k))
    noted_less h =
        let a = last_read in
        let b = other_read in
        let le : (fact_at facts k).bound ≤ℤ (fact_at facts p).bound = grind (arith, ints, a, b, h) in
        noted_now n facts k cells table i j is_on from_below to_below (subst (IsWorse n facts k cells table i j is_on) (sym is) le)

    pub noted_no_less : int_le (to_z w32 (of_z w32 g.bound)) (to_z w32 (of_z w32 f.bound)) ≡ true → AreLeastPlaces n facts (k + 1) cells
    noted_no_less h =
        let a = last_read in
        let b = other_read in
        let le : (fact_at facts p).bound ≤ℤ (fact_at facts k).bound = grind (arith, ints, a, b, h) in
        noted_before n facts k cells table i j is_on p is le

-- ---- what the facts in the cells say

pub in_append : (facts : List Fact) (cells others : List (Option ℕ)) → facts_in facts (cells ++ others) ≡ facts_in facts cells ++ facts_in facts others
in_append facts [] others = refl
in_append facts (None ∷ cells) others = in_append facts cells others
in_append facts (Some p ∷ cells) others = ap (λ (fs : List Fact). fact_at facts p ∷ fs) (in_append facts cells others)

pub in_few : (facts : List Fact) (cells : List (Option ℕ)) → length (facts_in facts cells) ≤ length cells
in_few facts [] = omega arith
in_few facts (None ∷ cells) = let h = in_few facts cells in omega (arith, h)
in_few facts (Some p ∷ cells) = let h = in_few facts cells in omega (arith, h)

or_left : (p q : Bool) → p ≡ true → (p || q) ≡ true
or_left p q e = ap (λ b. b || q) e

or_right : (p q : Bool) → q ≡ true → (p || q) ≡ true
or_right true q e = refl
or_right false q e = e

same_bool : (p q : Bool) → (p ≡ true → q ≡ true) → (q ≡ true → p ≡ true) → p ≡ q
same_bool true q f g = sym (f refl)
same_bool false true f g = g refl
same_bool false false f g = refl

-- all that holds of the facts holds of those in the cells
pub all_in : (P : Fact → Type 0) (facts : List Fact) (k : ℕ) → ((p : ℕ) → p < k → P (fact_at facts p)) → (cells : List (Option ℕ)) → ((cell place : ℕ) → slice_index_or cells cell None ≡ Some place → place < k) → AllByRecursion P (facts_in facts cells)
all_in P facts k h [] before = tt
all_in P facts k h (None ∷ cells) before = all_in P facts k h cells (λ cell. before (suc cell))
all_in P facts k h (Some p ∷ cells) before = (h p (before 0 p refl), all_in P facts k h cells (λ cell. before (suc cell)))

all_at : (P : Fact → Type 0) (facts : List Fact) → AllByRecursion P facts → (p : ℕ) → p < length facts → P (fact_at facts p)
all_at P [] h p lt = absurd (omega (arith, lt))
all_at P (f ∷ facts) h zero lt = h.0
all_at P (f ∷ facts) h (suc p) lt = all_at P facts h.1 p (omega (arith, lt))

all_by_index : (P : Fact → Type 0) (facts : List Fact) → AllByRecursion P facts → All P facts
all_by_index P [] h k d lt = absurd (omega (arith, lt))
all_by_index P (f ∷ facts) h zero d lt = h.0
all_by_index P (f ∷ facts) h (suc k) d lt = all_by_index P facts h.1 k d (omega (arith, lt))

-- a fact says what is listed
says_listed : (facts : List Fact) (p i j : ℕ) (w : ℤ) → p < length facts → fact_says (fact_at facts p) i j w ≡ true → listed facts i j w ≡ true
says_listed [] p i j w lt h = absurd (omega (arith, lt))
says_listed (f ∷ facts) zero i j w lt h = or_left (fact_says f i j w) (listed facts i j w) h
says_listed (f ∷ facts) (suc p) i j w lt h = or_right (fact_says f i j w) (listed facts i j w) (says_listed facts p i j w (omega (arith, lt)) h)

-- one of the facts says it
pub record Saying (facts : List Fact) (i j : ℕ) (w : ℤ) : Type 0 where
  pub place : ℕ
  pub within : place < length facts
  pub says : fact_says (fact_at facts place) i j w ≡ true

pub listed_says : (facts : List Fact) (i j : ℕ) (w : ℤ) → listed facts i j w ≡ true → Saying facts i j w
listed_says [] i j w h = absurd (false≢true h)
listed_says (f ∷ facts) i j w h = elim (or_cases (fact_says f i j w) (listed facts i j w) h) [
  | inl here ↦ record { place = 0; within = omega arith; says = here }
  | inr there ↦ let s = listed_says facts i j w there in record { place = suc s.place; within = let l = s.within in omega (arith, l); says = s.says }
]

in_listed : (facts : List Fact) (i j : ℕ) (w : ℤ) (cells : List (Option ℕ)) → ((cell place : ℕ) → slice_index_or cells cell None ≡ Some place → place < length facts) →
    listed (facts_in facts cells) i j w ≡ true → listed facts i j w ≡ true
in_listed facts i j w [] before h = absurd (false≢true h)
in_listed facts i j w (None ∷ cells) before h = in_listed facts i j w cells (λ cell. before (suc cell)) h
in_listed facts i j w (Some p ∷ cells) before h = elim (or_cases (fact_says (fact_at facts p) i j w) (listed (facts_in facts cells) i j w) h) [
  | inl here ↦ says_listed facts p i j w (before 0 p refl) here
  | inr there ↦ in_listed facts i j w cells (λ cell. before (suc cell)) there
]

cell_listed : (facts : List Fact) (i j : ℕ) (w : ℤ) (cells : List (Option ℕ)) (cell p : ℕ) → slice_index_or cells cell None ≡ Some p → fact_says (fact_at facts p) i j w ≡ true → listed (facts_in facts cells) i j w ≡ true
cell_listed facts i j w [] cell p is h = absurd (none-some p is)
cell_listed facts i j w (None ∷ cells) zero p is h = absurd (none-some p is)
cell_listed facts i j w (Some q ∷ cells) zero p is h =
    or_left (fact_says (fact_at facts q) i j w) _ (subst (λ r. fact_says (fact_at facts r) i j w ≡ true) (sym (some_is q p is)) h)
cell_listed facts i j w (None ∷ cells) (suc cell) p is h = cell_listed facts i j w cells cell p is h
cell_listed facts i j w (Some q ∷ cells) (suc cell) p is h = or_right (fact_says (fact_at facts q) i j w) _ (cell_listed facts i j w cells cell p is h)

-- a fact on the same difference with no greater bound says the same
says_less : (f g : Fact) (i j : ℕ) (w : ℤ) → f.from ≡ i → f.to ≡ j → f.bound ≤ℤ g.bound → fact_says g i j w ≡ true → fact_says f i j w ≡ true
says_less f g i j w a b le h =
    let p = and_true (nat_eq g.from i && nat_eq g.to j) _ h in
    let q = at_most g.bound w p.1 in
    let r : int_le f.bound w ≡ true = grind (arith, ints, le, q) in
    rw (eq-eqb f.from i a, eq-eqb f.to j b) r

module _ (n : ℕ) (facts : List Fact) (few : n ≤ 64) (are : All (IsFact n) facts) (cells : List (Option ℕ)) (table : AreLeastPlaces n facts (length facts) cells) where
  is_fact : (p : ℕ) → p < length facts → IsFact n (fact_at facts p)
  is_fact p lt = are p (record { from = 0; to = 0; bound = pos 0; chain = [] }) lt

  said : (i j : ℕ) (w : ℤ) → listed facts i j w ≡ true → listed (facts_in facts cells) i j w ≡ true
  said i j w h =
      let s = listed_says facts i j w h in
      let p = and_true (nat_eq (fact_at facts s.place).from i && nat_eq (fact_at facts s.place).to j) _ s.says in
      let q = and_true (nat_eq (fact_at facts s.place).from i) _ p.0 in
      let from = equal (fact_at facts s.place).from i q.0 in
      let to = equal (fact_at facts s.place).to j q.1 in
      let f = is_fact s.place s.within in
      let l = f.from in
      let l' = f.to in
      by_cell i j w s.place s.within s.says (record { from = from; to = to }) (cell_at cells i j) refl (table.least i j (omega (arith, from, l)) (omega (arith, to, l', few)))
    where
      by_cell : (i j : ℕ) (w : ℤ) (place : ℕ) → place < length facts → fact_says (fact_at facts place) i j w ≡ true → IsOn facts i j place → (o : Option ℕ) → cell_at cells i j ≡ o → IsLeastOf facts (length facts) i j o →
          listed (facts_in facts cells) i j w ≡ true
      by_cell i j w place lt says on None is h = absurd (h place lt on)
      by_cell i j w place lt says on (Some p) is h =
          cell_listed facts i j w cells (i * 64 + j) p is
          (says_less (fact_at facts p) (fact_at facts place) i j w h.on.from h.on.to (h.least place lt on) says)

  pub gathered_are : AreGathered n facts (facts_in facts cells)
  gathered_are = record {
    same = λ i j w. same_bool (listed (facts_in facts cells) i j w) (listed facts i j w) (in_listed facts i j w cells table.before) (said i j w);
    right = λ path right. all_in (λ f. is_right path f ≡ true) facts (length facts) (all_at (λ f. is_right path f ≡ true) facts right) cells table.before;
    are_facts = all_by_index (IsFact n) (facts_in facts cells) (all_in (IsFact n) facts (length facts) is_fact cells table.before);
    few = let a = in_few facts cells in let b = table.long in omega (arith, a, b, few);
  }

-- ---- the loop over the cells

pub some_gathered : (facts : List Fact) (cells : List (Option ℕ)) (k p : ℕ) (f : Fact) (old : List Fact) → k < length cells → get_or cells k None ≡ Some p → p < length facts → f ≡ get_or facts p f →
    old ≡ facts_in facts (take k cells) → old ++ f ∷ [] ≡ facts_in facts (take (k + 1) cells)
some_gathered facts cells k p f old lt is within f_is e =
    ap (λ (fs : List Fact). fs ++ f ∷ []) e
    ∙ (ap (λ (g : Fact). facts_in facts (take k cells) ++ g ∷ []) (sym (fact_is facts p f within f_is))
    ∙ (sym (in_append facts (take k cells) (Some p ∷ []))
    ∙ ap (facts_in facts) (ap (λ (o : Option ℕ). take k cells ++ o ∷ []) (sym is) ∙ sym (take_more cells k None lt))))

append_none : (fs : List Fact) → fs ≡ fs ++ []
append_none [] = refl
append_none (f ∷ fs) = ap (λ (gs : List Fact). f ∷ gs) (append_none fs)

pub none_gathered : (facts : List Fact) (cells : List (Option ℕ)) (k : ℕ) (old : List Fact) → k < length cells → get_or cells k None ≡ None →
    old ≡ facts_in facts (take k cells) → old ≡ facts_in facts (take (k + 1) cells)
none_gathered facts cells k old lt is e =
    e
    ∙ (append_none (facts_in facts (take k cells))
    ∙ (sym (in_append facts (take k cells) (None ∷ []))
    ∙ ap (facts_in facts) (ap (λ (o : Option ℕ). take k cells ++ o ∷ []) (sym is) ∙ sym (take_more cells k None lt))))

take_all : {A : Type 0} (xs : List A) (k : ℕ) → length xs ≤ k → take k xs ≡ xs
take_all [] zero le = refl
take_all [] (suc k) le = refl
take_all (x ∷ xs) zero le = absurd (omega (arith, le))
take_all (x ∷ xs) (suc k) le = ap (λ ys. x ∷ ys) (take_all xs k (omega (arith, le)))

pub all_gathered : (n : ℕ) (facts : List Fact) → n ≤ 64 → All (IsFact n) facts → (cells : List (Option ℕ)) → AreLeastPlaces n facts (length facts) cells →
    (items : List (Option ℕ)) (k : ℕ) (gathered : List Fact) → items ≡ cells → length items ≤ k → gathered ≡ facts_in facts (take k items) → AreGathered n facts gathered
all_gathered n facts few are cells table items k gathered e le is =
    subst (AreGathered n facts) (sym (is ∙ ap (facts_in facts) (take_all items k le ∙ e))) (gathered_are n facts few are cells table)
