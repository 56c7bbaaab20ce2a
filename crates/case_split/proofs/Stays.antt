-- Decided forms stay what they are where more is known, and what they name and count is the term's.
use Rattle.std.proofs.Common.{◌≡◌, ℕ, zero, suc, ◌+◌, ◌<◌, ◌≤◌, List, [], ◌∷◌, length, refl, subst, sym, ap, ◌∙◌, arith, Bool, true, false, inl, inr}
use Rattle.std.specs.Prelude.{ℤ, pos, ◌-ℤ◌, ◌≤ℤ◌, nat_eq, nat_le, ◌&&◌, IsTrue, Option, Some, None, if◌then◌else◌, max}
use Rattle.std.proofs.lemmas.Bool.{false≢true, or_cases}
use Rattle.std.proofs.lemmas.Option.{none-some}
use Rattle.std.proofs.lemmas.Int.{ints}
use Rattle.std.proofs.lemmas.Bool.Decides.{nat_tests}
use Rattle.refutation.specs.declared.item.Fact.{Fact}
use Rattle.refutation.specs.Path.{MeetsAll}
use Rattle.refutation.specs.Cases.{Path}
use Rattle.term_store.specs.Tree.{Tree, Never, Input, Min, Max, Lt, Inc, span}
use Rattle.tree_check.specs.declared.form.Form.{Form}
use Rattle.tree_check.specs.declared.form.Form.TheVariants as form
use Rattle.tree_check.specs.Forms.{Known, compared, chosen, min_form, max_form, lt_form, inc_form, is_decided}
use Rattle.tree_check.specs.Valid.{fact_says, listed}
use Rattle.tree_check.proofs.Chains.{and_true, at_most, equal, shown}
use Rattle.term_store.specs.declared.node.Node.{Node}
use Rattle.term_store.specs.declared.node.Node.TheVariants as node
use Rattle.term_store.specs.Nodes.{node_at, IsNodeOver, IsNodes}
use Rattle.term_store.specs.Subterms.{subterms, is_among}
use Rattle.term_store.specs.Trees.{tree}
use Rattle.term_store.specs.Places.{tree_by_places}
use Rattle.term_store.proofs.Parts.{IsIn, in_from_among}
use Rattle.term_store.proofs.Counted.{follows}
use Rattle.case_split.specs.TermForms.{term_form, IsWithinKnown, HoldsAt}
use Rattle.case_split.specs.Decided.{AreRight, IsPossible}

-- right facts are so of all integers that meet the path
pub right_holds : (x : ℕ → ℤ) (path : Path) → MeetsAll x path → (facts : List Fact) → AreRight path facts → HoldsAt x (listed facts)
right_holds x path m [] right i j w h = absurd (false≢true h)
right_holds x path m (f ∷ facts) right i j w h =
    elim (or_cases (fact_says f i j w) (listed facts i j w) h) [
      | inl here ↦
          let p = and_true (nat_eq f.from i && nat_eq f.to j) _ here in
          let q = and_true (nat_eq f.from i) _ p.0 in
          let le = at_most f.bound w p.1 in
          let s = shown x path f.chain f.from f.to f.bound m right.0 in
          subst (λ (i : ℕ). (x i -ℤ x j) ≤ℤ w) (equal f.from i q.0)
          (subst (λ (j : ℕ). (x f.from -ℤ x j) ≤ℤ w) (equal f.to j q.1) (omega (arith, ints, le, s)))
      | inr there ↦ right_holds x path m facts right.1 i j w there
    ]

-- answers of the tests: the first of them, or each of the two bounds
abbrev answered : Bool → Bool → Bool → Bool → Option Bool
answered p e q r = if p then Some e else (if q then Some true else (if r then Some false else None))

answer_stays : (p e q q' r r' b : Bool) → (q ≡ true → q' ≡ true) → (r ≡ true → r' ≡ true) → (q' ≡ true → r' ≡ true → ⊥) →
    answered p e q r ≡ Some b → answered p e q' r' ≡ Some b
answer_stays true e q q' r r' b f g n h = h
answer_stays false e true q' r r' b f g n h = ap (λ (q : Bool). answered false e q r') (f refl) ∙ h
answer_stays false e false true true r' b f g n h = absurd (n refl (g refl))
answer_stays false e false false true r' b f g n h = ap (λ (r : Bool). answered false e false r) (g refl) ∙ h
answer_stays false e false q' false r' b f g n h = absurd (none-some b h)

module _ (x : ℕ → ℤ) (known wider : Known) (within : IsWithinKnown known wider) (holds : HoldsAt x wider) where
  pub compared_stays : (i c j d : ℕ) (b : Bool) → compared known i c j d ≡ Some b → compared wider i c j d ≡ Some b
  compared_stays i c j d b h =
      answer_stays (nat_eq i j) (nat_le c d) (known i j (pos d -ℤ pos c)) (wider i j (pos d -ℤ pos c))
      (known j i ((pos c -ℤ pos d) -ℤ pos 1)) (wider j i ((pos c -ℤ pos d) -ℤ pos 1)) b
      (within i j _) (within j i _)
      (λ y n. let p = holds i j _ y in let q = holds j i _ n in absurd (omega (arith, ints, p, q))) h

  chosen_stays : (o p : Option Bool) (f g : Form) → ((b : Bool) → o ≡ Some b → p ≡ Some b) → is_decided (chosen o f g) ≡ true → chosen p f g ≡ chosen o f g
  chosen_stays (Some b) p f g s h = ap (λ (p : Option Bool). chosen p f g) (s b refl)
  chosen_stays None p f g s h = absurd (false≢true h)

  min_stays : (f g f' g' : Form) → (is_decided f ≡ true → f' ≡ f) → (is_decided g ≡ true → g' ≡ g) → is_decided (min_form known f g) ≡ true → min_form wider f' g' ≡ min_form known f g
  min_stays form.Undecided g f' g' p q h = absurd (false≢true h)
  min_stays form.Never g f' g' p q h = λ i. min_form wider (p refl i) (q h i)
  min_stays (form.Plus i c) form.Undecided f' g' p q h = absurd (false≢true h)
  min_stays (form.Plus i c) form.Never f' g' p q h = λ k. min_form wider (p refl k) (q refl k)
  min_stays (form.Plus i c) (form.Plus j d) f' g' p q h =
      (λ k. min_form wider (p refl k) (q refl k)) ∙ chosen_stays (compared known i c j d) (compared wider i c j d) (form.Plus i c) (form.Plus j d) (compared_stays i c j d) h

  max_stays : (f g f' g' : Form) → (is_decided f ≡ true → f' ≡ f) → (is_decided g ≡ true → g' ≡ g) → is_decided (max_form known f g) ≡ true → max_form wider f' g' ≡ max_form known f g
  max_stays form.Undecided g f' g' p q h = absurd (false≢true h)
  max_stays form.Never form.Undecided f' g' p q h = absurd (false≢true h)
  max_stays form.Never form.Never f' g' p q h = λ k. max_form wider (p refl k) (q refl k)
  max_stays form.Never (form.Plus j d) f' g' p q h = λ k. max_form wider (p refl k) (q refl k)
  max_stays (form.Plus i c) form.Undecided f' g' p q h = absurd (false≢true h)
  max_stays (form.Plus i c) form.Never f' g' p q h = λ k. max_form wider (p refl k) (q refl k)
  max_stays (form.Plus i c) (form.Plus j d) f' g' p q h =
      (λ k. max_form wider (p refl k) (q refl k)) ∙ chosen_stays (compared known i c j d) (compared wider i c j d) (form.Plus j d) (form.Plus i c) (compared_stays i c j d) h

  lt_stays : (f g f' g' : Form) → (is_decided f ≡ true → f' ≡ f) → (is_decided g ≡ true → g' ≡ g) → is_decided (lt_form known f g) ≡ true → lt_form wider f' g' ≡ lt_form known f g
  lt_stays form.Undecided g f' g' p q h = absurd (false≢true h)
  lt_stays form.Never form.Undecided f' g' p q h = absurd (false≢true h)
  lt_stays form.Never form.Never f' g' p q h = λ k. lt_form wider (p refl k) (q refl k)
  lt_stays form.Never (form.Plus j d) f' g' p q h = λ k. lt_form wider (p refl k) (q refl k)
  lt_stays (form.Plus i c) form.Undecided f' g' p q h = absurd (false≢true h)
  lt_stays (form.Plus i c) form.Never f' g' p q h = λ k. lt_form wider (p refl k) (q refl k)
  lt_stays (form.Plus i c) (form.Plus j d) f' g' p q h =
      (λ k. lt_form wider (p refl k) (q refl k)) ∙ chosen_stays (compared known j d i c) (compared wider j d i c) form.Never (form.Plus i c) (compared_stays j d i c) h

  inc_stays : (f f' : Form) (c : ℕ) → (is_decided f ≡ true → f' ≡ f) → is_decided (inc_form f c) ≡ true → inc_form f' c ≡ inc_form f c
  inc_stays form.Undecided f' c p h = absurd (false≢true h)
  inc_stays form.Never f' c p h = λ k. inc_form (p refl k) c
  inc_stays (form.Plus i b) f' c p h = λ k. inc_form (p refl k) c

  pub stays : (t : Tree) → is_decided (term_form known t) ≡ true → term_form wider t ≡ term_form known t
  stays Never h = refl
  stays (Input i) h = refl
  stays (Min a b) h = min_stays (term_form known a) (term_form known b) (term_form wider a) (term_form wider b) (stays a) (stays b) h
  stays (Max a b) h = max_stays (term_form known a) (term_form known b) (term_form wider a) (term_form wider b) (stays a) (stays b) h
  stays (Lt a b) h = lt_stays (term_form known a) (term_form known b) (term_form wider a) (term_form wider b) (stays a) (stays b) h
  stays (Inc a c) h = inc_stays (term_form known a) (term_form wider a) c (stays a) h

abbrev pub same_form : Form → Form → Bool
same_form form.Never form.Never = true
same_form (form.Plus i c) (form.Plus j d) = nat_eq i j && nat_eq c d
same_form form.Undecided form.Undecided = true
same_form f g = false

same_is : (f g : Form) → same_form f g ≡ true → f ≡ g
same_is form.Never form.Never h = refl
same_is (form.Plus i c) (form.Plus j d) h =
    let p = and_true (nat_eq i j) _ h in
    λ k. form.Plus (equal i j p.0 k) (equal c d p.1 k)
same_is form.Undecided form.Undecided h = refl
same_is form.Never (form.Plus j d) h = absurd (false≢true h)
same_is form.Never form.Undecided h = absurd (false≢true h)
same_is (form.Plus i c) form.Never h = absurd (false≢true h)
same_is (form.Plus i c) form.Undecided h = absurd (false≢true h)
same_is form.Undecided form.Never h = absurd (false≢true h)
same_is form.Undecided (form.Plus j d) h = absurd (false≢true h)

same_self : (f : Form) → same_form f f ≡ true
same_self form.Never = refl
same_self (form.Plus i c) =
    let p : nat_eq i i ≡ true = grind (arith, nat_tests) in
    let q : nat_eq c c ≡ true = grind (arith, nat_tests) in
    rw (p, q) refl
same_self form.Undecided = refl

-- forms are equal where it isn't so that they aren't
pub not_apart : (f g : Form) → ((f ≡ g → ⊥) → ⊥) → f ≡ g
not_apart f g n = go (same_form f g) refl
  where
    go : (b : Bool) → same_form f g ≡ b → f ≡ g
    go true e = same_is f g e
    go false e = absurd (n (λ q. false≢true (sym e ∙ (ap (λ (h : Form). same_form f h) (sym q) ∙ same_self f))))

-- a decided form stays where more facts come
pub forms_stay : (path : Path) → IsPossible path → (facts more : List Fact) → AreRight path facts → AreRight path more → IsWithinKnown (listed facts) (listed more) →
    (t : Tree) → is_decided (term_form (listed facts) t) ≡ true → term_form (listed more) t ≡ term_form (listed facts) t
forms_stay path possible facts more right right' within t h =
    not_apart (term_form (listed more) t) (term_form (listed facts) t)
    (λ n. possible (λ met. n (stays met.0 (listed facts) (listed more) within (right_holds met.0 path met.1 more right') t h)))

-- the constant is at most n
abbrev pub IsWithin : ℕ → Form → Type 0
IsWithin n form.Never = Unit {0}
IsWithin n (form.Plus i c) = c ≤ n
IsWithin n form.Undecided = Unit {0}

within_le : (f : Form) (m n : ℕ) → m ≤ n → IsWithin m f → IsWithin n f
within_le form.Never m n le h = tt
within_le form.Undecided m n le h = tt
within_le (form.Plus i c) m n le h = omega (arith, le, h)

chosen_within : (o : Option Bool) (f g : Form) (n : ℕ) → IsWithin n f → IsWithin n g → IsWithin n (chosen o f g)
chosen_within (Some true) f g n p q = p
chosen_within (Some false) f g n p q = q
chosen_within None f g n p q = tt

module _ (known : Known) where
  min_within : (f g : Form) (n : ℕ) → IsWithin n f → IsWithin n g → IsWithin n (min_form known f g)
  min_within form.Undecided g n p q = tt
  min_within form.Never g n p q = q
  min_within (form.Plus i c) form.Undecided n p q = tt
  min_within (form.Plus i c) form.Never n p q = p
  min_within (form.Plus i c) (form.Plus j d) n p q = chosen_within (compared known i c j d) (form.Plus i c) (form.Plus j d) n p q

  max_within : (f g : Form) (n : ℕ) → IsWithin n f → IsWithin n g → IsWithin n (max_form known f g)
  max_within form.Undecided g n p q = tt
  max_within form.Never form.Undecided n p q = tt
  max_within form.Never form.Never n p q = tt
  max_within form.Never (form.Plus j d) n p q = tt
  max_within (form.Plus i c) form.Undecided n p q = tt
  max_within (form.Plus i c) form.Never n p q = tt
  max_within (form.Plus i c) (form.Plus j d) n p q = chosen_within (compared known i c j d) (form.Plus j d) (form.Plus i c) n q p

  lt_within : (f g : Form) (n : ℕ) → IsWithin n f → IsWithin n (lt_form known f g)
  lt_within form.Undecided g n p = tt
  lt_within form.Never form.Undecided n p = tt
  lt_within form.Never form.Never n p = tt
  lt_within form.Never (form.Plus j d) n p = tt
  lt_within (form.Plus i c) form.Undecided n p = tt
  lt_within (form.Plus i c) form.Never n p = p
  lt_within (form.Plus i c) (form.Plus j d) n p = chosen_within (compared known j d i c) form.Never (form.Plus i c) n tt p

  inc_within : (f : Form) (n c : ℕ) → IsWithin n f → IsWithin (n + c) (inc_form f c)
  inc_within form.Never n c p = tt
  inc_within form.Undecided n c p = tt
  inc_within (form.Plus i b) n c p = omega (arith, p)

  pub within_span : (t : Tree) → IsWithin (span t) (term_form known t)
  within_span Never = tt
  within_span (Input i) = omega arith
  within_span (Min a b) = min_within (term_form known a) (term_form known b) (max (span a) (span b)) (within_le _ (span a) _ (omega arith) (within_span a)) (within_le _ (span b) _ (omega arith) (within_span b))
  within_span (Max a b) = max_within (term_form known a) (term_form known b) (max (span a) (span b)) (within_le _ (span a) _ (omega arith) (within_span a)) (within_le _ (span b) _ (omega arith) (within_span b))
  within_span (Lt a b) = lt_within (term_form known a) (term_form known b) (max (span a) (span b)) (within_le _ (span a) _ (omega arith) (within_span a))
  within_span (Inc a c) = inc_within (term_form known a) (span a) c (within_span a)

-- the constant of a term's form is at most its span
pub forms_are_small : (known : Known) (t : Tree) (i c : ℕ) → term_form known t ≡ form.Plus i c → c ≤ span t
forms_are_small known t i c e = subst (IsWithin (span t)) e (within_span known t)

-- P is true of the input of a form
abbrev pub Names : (ℕ → Type 0) → Form → Type 0
Names P form.Never = Unit {0}
Names P (form.Plus i c) = P i
Names P form.Undecided = Unit {0}

module _ (P : ℕ → Type 0) where
  chosen_names : (o : Option Bool) (f g : Form) → Names P f → Names P g → Names P (chosen o f g)
  chosen_names (Some true) f g p q = p
  chosen_names (Some false) f g p q = q
  chosen_names None f g p q = tt

  module _ (known : Known) where
    min_names : (f g : Form) → Names P f → Names P g → Names P (min_form known f g)
    min_names form.Undecided g p q = tt
    min_names form.Never g p q = q
    min_names (form.Plus i c) form.Undecided p q = tt
    min_names (form.Plus i c) form.Never p q = p
    min_names (form.Plus i c) (form.Plus j d) p q = chosen_names (compared known i c j d) (form.Plus i c) (form.Plus j d) p q

    max_names : (f g : Form) → Names P f → Names P g → Names P (max_form known f g)
    max_names form.Undecided g p q = tt
    max_names form.Never form.Undecided p q = tt
    max_names form.Never form.Never p q = tt
    max_names form.Never (form.Plus j d) p q = tt
    max_names (form.Plus i c) form.Undecided p q = tt
    max_names (form.Plus i c) form.Never p q = tt
    max_names (form.Plus i c) (form.Plus j d) p q = chosen_names (compared known i c j d) (form.Plus j d) (form.Plus i c) q p

    lt_names : (f g : Form) → Names P f → Names P (lt_form known f g)
    lt_names form.Undecided g p = tt
    lt_names form.Never form.Undecided p = tt
    lt_names form.Never form.Never p = tt
    lt_names form.Never (form.Plus j d) p = tt
    lt_names (form.Plus i c) form.Undecided p = tt
    lt_names (form.Plus i c) form.Never p = p
    lt_names (form.Plus i c) (form.Plus j d) p = chosen_names (compared known j d i c) form.Never (form.Plus i c) tt p

    inc_names : (f : Form) (c : ℕ) → Names P f → Names P (inc_form f c)
    inc_names form.Never c p = tt
    inc_names form.Undecided c p = tt
    inc_names (form.Plus i b) c p = p

    -- a term's form names one of the inputs of the term
    pub term_names : (t : Tree) → ((i : ℕ) → IsIn (Input i) t → P i) → Names P (term_form known t)
    term_names Never h = tt
    term_names (Input i) h = h i refl
    term_names (Min a b) h = min_names (term_form known a) (term_form known b) (term_names a (λ i u. h i (inr (inl u)))) (term_names b (λ i u. h i (inr (inr u))))
    term_names (Max a b) h = max_names (term_form known a) (term_form known b) (term_names a (λ i u. h i (inr (inl u)))) (term_names b (λ i u. h i (inr (inr u))))
    term_names (Lt a b) h = lt_names (term_form known a) (term_form known b) (term_names a (λ i u. h i (inr (inl u))))
    term_names (Inc a c) h = inc_names (term_form known a) c (term_names a (λ i u. h i (inr u)))

-- the input of a term's form is in the term
pub forms_name_parts : (known : Known) (t : Tree) (i c : ℕ) → term_form known t ≡ form.Plus i c → IsIn (Input i) t
forms_name_parts known t i c e = subst (Names (λ i. IsIn (Input i) t)) e (term_names (λ i. IsIn (Input i) t) known t (λ i u. u))

-- forms of places name only inputs below n where the nodes do
module _ (known : Known) (nodes : List Node) (n : ℕ) (rules : IsNodes nodes) (inputs : (place i : ℕ) → place < length nodes → node_at nodes place ≡ node.Input i → i < n) where
  abbrev PlaceNames : ℕ → Type 0
  PlaceNames place = Names (λ i. i < n) (term_form known (tree nodes place))

  node_names : (place : ℕ) → place < length nodes → ((q : ℕ) → q < place → PlaceNames q) → (m : Node) → node_at nodes place ≡ m → IsNodeOver place m →
      Names (λ i. i < n) (term_form known (tree_by_places nodes m))
  node_names place lt down node.Never e over = tt
  node_names place lt down (node.Input i) e over = inputs place i lt e
  node_names place lt down (node.Min a b) e over =
      min_names (λ i. i < n) known (term_form known (tree nodes a.0)) (term_form known (tree nodes b.0)) (down a.0 over.0) (down b.0 over.1)
  node_names place lt down (node.Max a b) e over =
      max_names (λ i. i < n) known (term_form known (tree nodes a.0)) (term_form known (tree nodes b.0)) (down a.0 over.0) (down b.0 over.1)
  node_names place lt down (node.Lt a b) e over =
      lt_names (λ i. i < n) known (term_form known (tree nodes a.0)) (term_form known (tree nodes b.0)) (down a.0 over.0)
  node_names place lt down (node.Inc a c) e over = inc_names (λ i. i < n) known (term_form known (tree nodes a.0)) c (down a.0 over.0)

  names_below : (bound place : ℕ) → place < bound → place < length nodes → PlaceNames place
  names_below zero place b lt = absurd (omega (arith, b))
  names_below (suc bound) place b lt =
      subst (λ (t : Tree). Names (λ i. i < n) (term_form known t)) (sym (follows nodes place rules lt))
      (node_names place lt (λ q l. names_below bound q (omega (arith, b, l)) (omega (arith, l, lt))) (node_at nodes place) refl (rules.lower place lt))

  pub forms_name_inputs : (place i c : ℕ) → place < length nodes → term_form known (tree nodes place) ≡ form.Plus i c → i < n
  forms_name_inputs place i c lt e = subst (Names (λ i. i < n)) e (names_below (suc place) place (omega arith) lt)

-- operators are strict
module _ (known : Known) where
  min_right : (f : Form) → min_form known f form.Undecided ≡ form.Undecided
  min_right form.Never = refl
  min_right (form.Plus i c) = refl
  min_right form.Undecided = refl

  max_right : (f : Form) → max_form known f form.Undecided ≡ form.Undecided
  max_right form.Never = refl
  max_right (form.Plus i c) = refl
  max_right form.Undecided = refl

  lt_right : (f : Form) → lt_form known f form.Undecided ≡ form.Undecided
  lt_right form.Never = refl
  lt_right (form.Plus i c) = refl
  lt_right form.Undecided = refl

  pub inside_undecided : (s t : Tree) → IsIn s t → term_form known s ≡ form.Undecided → term_form known t ≡ form.Undecided
  inside_undecided s Never u e = subst (λ (t : Tree). term_form known t ≡ form.Undecided) u e
  inside_undecided s (Input i) u e = subst (λ (t : Tree). term_form known t ≡ form.Undecided) u e
  inside_undecided s (Min a b) u e = elim u [
    | inl q ↦ subst (λ (t : Tree). term_form known t ≡ form.Undecided) q e
    | inr v ↦ elim v [
      | inl p ↦ ap (λ (f : Form). min_form known f (term_form known b)) (inside_undecided s a p e)
      | inr p ↦ ap (λ (f : Form). min_form known (term_form known a) f) (inside_undecided s b p e) ∙ min_right (term_form known a)
    ]
  ]
  inside_undecided s (Max a b) u e = elim u [
    | inl q ↦ subst (λ (t : Tree). term_form known t ≡ form.Undecided) q e
    | inr v ↦ elim v [
      | inl p ↦ ap (λ (f : Form). max_form known f (term_form known b)) (inside_undecided s a p e)
      | inr p ↦ ap (λ (f : Form). max_form known (term_form known a) f) (inside_undecided s b p e) ∙ max_right (term_form known a)
    ]
  ]
  inside_undecided s (Lt a b) u e = elim u [
    | inl q ↦ subst (λ (t : Tree). term_form known t ≡ form.Undecided) q e
    | inr v ↦ elim v [
      | inl p ↦ ap (λ (f : Form). lt_form known f (term_form known b)) (inside_undecided s a p e)
      | inr p ↦ ap (λ (f : Form). lt_form known (term_form known a) f) (inside_undecided s b p e) ∙ lt_right (term_form known a)
    ]
  ]
  inside_undecided s (Inc a c) u e = elim u [
    | inl q ↦ subst (λ (t : Tree). term_form known t ≡ form.Undecided) q e
    | inr p ↦ ap (λ (f : Form). inc_form f c) (inside_undecided s a p e)
  ]

-- where a part of a term is undecided, the term is
pub part_undecided : (known : Known) (s t : Tree) → IsTrue (is_among s (subterms t)) → term_form known s ≡ form.Undecided → term_form known t ≡ form.Undecided
part_undecided known s t h e = inside_undecided known s t (in_from_among s t h) e
