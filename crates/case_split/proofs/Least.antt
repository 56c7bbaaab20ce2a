-- No valid tree for two outputs has fewer items than one whose splits are all due.
use Rattle.std.proofs.Common.{◌≡◌, ℕ, zero, suc, ◌+◌, ◌*◌, ◌<◌, ◌≤◌, List, [], ◌∷◌, ◌++◌, length, map, refl, subst, sym, ap, ◌∙◌, arith, Bool, true, false, true≢false, ◌⊎◌, inl, inr}
use Rattle.std.specs.Prelude.{ℤ, pos, neg_ℤ, ◌-ℤ◌, ◌≤ℤ◌, nat_eq, nat_le, int_le, IsTrue, Option, Some, None, if◌then◌else◌, slice_index_or}
use Rattle.std.specs.List.{AllByRecursion, list_all, list_any, IsDistinct}
use Rattle.std.proofs.lemmas.Bool.{false≢true, cases_Bool, or_cases, ne_eqb, eqb-true}
use Rattle.std.proofs.lemmas.Bool.Decides.{nat_tests}
use Rattle.std.proofs.lemmas.Option.{none-some}
use Rattle.std.proofs.lemmas.Int.{ints, by_lt_z}
use Rattle.std.proofs.lemmas.Map.Steps.{length-le_from_distinct_below}
use Rattle.std.proofs.Math.Dec.{eqb}
use Rattle.net_model.specs.declared.assume.Assume.{Assume}
use Rattle.refutation.specs.declared.item.Item.{Item}
use Rattle.refutation.specs.declared.item.Item.TheVariants as item
use Rattle.refutation.specs.declared.item.Fact.{Fact}
use Rattle.refutation.specs.Path.{MeetsAll, assumption}
use Rattle.refutation.specs.Cases.{Path, EachOnPath, OneOnPath, yes_side, no_side}
use Rattle.diff_bounds.specs.Bounds.{CanBeMet, Implies}
use Rattle.diff_bounds.proofs.Cycles.{solved}
use Rattle.diff_bounds.proofs.Least.{int_true, meets_more, none_meets}
use Rattle.diff_bounds.proofs.Ending.{and_is}
use Rattle.diff_bounds.proofs.Kept.{meets_fewer, meets_last}
use Rattle.term_store.specs.Tree.{Tree, Never}
use Rattle.term_store.specs.Terms.{tree_in, network_trees}
use Rattle.term_store.specs.Subterms.{is_among, all_subterms}
use Rattle.term_store.proofs.Parts.{IsIn, all_among, among_all, in_self}
use Rattle.tree_check.specs.declared.form.Form.{Form}
use Rattle.tree_check.specs.declared.form.Form.TheVariants as form
use Rattle.tree_check.specs.Forms.{Known, compared, chosen, min_form, max_form, lt_form, output_form, is_decided, AreEqualForms}
use Rattle.tree_check.specs.Valid.{Pair, IsValid, IsValidItem, root, listed}
use Rattle.tree_check.proofs.Chains.{one_side, at_most, equal, and_true}
use Rattle.case_split.specs.TermForms.{term_form, HoldsAt}
use Rattle.case_split.specs.Decided.{AreRight, IsOpen, IsUndecided}
use Rattle.case_split.specs.Live.{pair_terms, Compares, IsDue, IsDueItem, IsUnsettledItem, splits, opened}
use Rattle.case_split.proofs.Stays.{stays, right_holds, inside_undecided}
use Rattle.case_split.proofs.Due.{implied_chain, shown_fact, within_last, holds_append, form_or_due}
use Rattle.case_split.proofs.TermForms.{network_form}
use Rattle.case_split.proofs.Implied.{root_is_possible}
use Rattle.case_split.proofs.Judged.{no_at, within_append}

-- ---- both sides of an open comparison can be met

-- what is so under a known bound isn't open
yes_known : (known : Known) (i c j d : ℕ) → known i j (pos d -ℤ pos c) ≡ true → compared known i c j d ≡ None → ⊥
yes_known known i c j d h = go (nat_eq i j) (known i j (pos d -ℤ pos c)) (known j i ((pos c -ℤ pos d) -ℤ pos 1)) h
  where
    go : (p q r : Bool) → q ≡ true → (if p then Some (nat_le c d) else (if q then Some true else (if r then Some false else None))) ≡ None → ⊥
    go true q r h e = none-some (nat_le c d) (sym e)
    go false true r h e = none-some true (sym e)
    go false false r h e = false≢true h

no_known : (known : Known) (i c j d : ℕ) → known j i ((pos c -ℤ pos d) -ℤ pos 1) ≡ true → compared known i c j d ≡ None → ⊥
no_known known i c j d h = go (nat_eq i j) (known i j (pos d -ℤ pos c)) (known j i ((pos c -ℤ pos d) -ℤ pos 1)) h
  where
    go : (p q r : Bool) → r ≡ true → (if p then Some (nat_le c d) else (if q then Some true else (if r then Some false else None))) ≡ None → ⊥
    go true q r h e = none-some (nat_le c d) (sym e)
    go false true r h e = none-some true (sym e)
    go false false true h e = none-some false (sym e)
    go false false false h e = false≢true h

one_way : (a b w : ℤ) → ((a -ℤ b) ≤ℤ w → ⊥) → (b -ℤ a) ≤ℤ (neg_ℤ w -ℤ pos 1)
one_way a b w h = by_lt_z {P = (b -ℤ a) ≤ℤ (neg_ℤ w -ℤ pos 1)} w (a -ℤ b) (λ lt. omega (arith, ints, lt)) (λ le. absurd (h le))

other_way : (a b w : ℤ) → ((b -ℤ a) ≤ℤ (neg_ℤ w -ℤ pos 1) → ⊥) → (a -ℤ b) ≤ℤ w
other_way a b w h = by_lt_z {P = (a -ℤ b) ≤ℤ w} w (a -ℤ b) (λ lt. absurd (h (omega (arith, ints, lt)))) (λ le. le)

open_yes : (path : Path) (i c j d : ℕ) → CanBeMet path → IsOpen path i c j d → CanBeMet (path ++ assumption i j (pos d -ℤ pos c) ∷ [])
open_yes path i c j d met undecided = elim (solved (path ++ assumption i j (pos d -ℤ pos c) ∷ [])) [
  | inl s ↦ (s.x, s.meets)
  | inr r ↦
      let all : Implies path j i ((pos c -ℤ pos d) -ℤ pos 1) = λ x m.
      other (x i) (x j) c d (λ le. none_meets x (path ++ assumption i j (pos d -ℤ pos c) ∷ []) r.0 (meets_more x path (assumption i j (pos d -ℤ pos c)) m le) r.1) in
      let f = shown_fact path j i ((pos c -ℤ pos d) -ℤ pos 1) (implied_chain path j i _ met all) in
      absurd (no_known (listed (f.0 ∷ [])) i c j d f.2 (undecided (f.0 ∷ []) f.1))
]
  where
    other : (a b : ℤ) (c d : ℕ) → ((a -ℤ b) ≤ℤ (pos d -ℤ pos c) → ⊥) → (b -ℤ a) ≤ℤ ((pos c -ℤ pos d) -ℤ pos 1)
    other a b c d h = let k = one_way a b (pos d -ℤ pos c) h in omega (arith, ints, k)

open_no : (path : Path) (i c j d : ℕ) → CanBeMet path → IsOpen path i c j d → CanBeMet (path ++ assumption j i (neg_ℤ (pos d -ℤ pos c) -ℤ pos 1) ∷ [])
open_no path i c j d met undecided = elim (solved (path ++ assumption j i (neg_ℤ (pos d -ℤ pos c) -ℤ pos 1) ∷ [])) [
  | inl s ↦ (s.x, s.meets)
  | inr r ↦
      let all : Implies path i j (pos d -ℤ pos c) = λ x m.
      other (x i) (x j) c d (λ le. none_meets x (path ++ assumption j i (neg_ℤ (pos d -ℤ pos c) -ℤ pos 1) ∷ []) r.0 (meets_more x path (assumption j i (neg_ℤ (pos d -ℤ pos c) -ℤ pos 1)) m le) r.1) in
      let f = shown_fact path i j (pos d -ℤ pos c) (implied_chain path i j _ met all) in
      absurd (yes_known (listed (f.0 ∷ [])) i c j d f.2 (undecided (f.0 ∷ []) f.1))
]
  where
    other : (a b : ℤ) (c d : ℕ) → ((b -ℤ a) ≤ℤ (neg_ℤ (pos d -ℤ pos c) -ℤ pos 1) → ⊥) → (a -ℤ b) ≤ℤ (pos d -ℤ pos c)
    other a b c d h = other_way a b (pos d -ℤ pos c) h

-- ---- where integers end in a tree

meets : (ℕ → ℤ) → Path → Bool
meets x path = list_all (λ a. int_le (x a.from -ℤ x a.to) a.bound) path

meets_is : (x : ℕ → ℤ) (path : Path) → meets x path ≡ true → MeetsAll x path
unfolding meets
meets_is x [] h = tt
meets_is x (a ∷ path) h = let p = and_true (int_le (x a.from -ℤ x a.to) a.bound) _ h in (at_most (x a.from -ℤ x a.to) a.bound p.0, meets_is x path p.1)

is_meets : (x : ℕ → ℤ) (path : Path) → MeetsAll x path → meets x path ≡ true
unfolding meets
is_meets x [] h = refl
is_meets x (a ∷ path) h = and_is (int_le (x a.from -ℤ x a.to) a.bound) _ (int_true (x a.from -ℤ x a.to) a.bound h.0) (is_meets x path h.1)

-- the integers meet one of the paths
MeetsOne : (ℕ → ℤ) → List Path → Type 0
MeetsOne x [] = ⊥
MeetsOne x (path ∷ paths) = MeetsAll x path ⊎ MeetsOne x paths

-- how many items are no splits
ends : List Item → ℕ
ends [] = 0
ends (item.Split i j w ∷ items) = ends items
ends (item.Leaf facts ∷ items) = suc (ends items)
ends (item.Closed chain ∷ items) = suc (ends items)
ends (item.Unsettled ∷ items) = suc (ends items)

-- a tree has one split fewer than others
ends_count : (P : Path → Item → Type 0) (paths : List Path) (items : List Item) → EachOnPath P paths items → length items + length paths ≡ 2 * ends items
unfolding ends
ends_count P [] [] h = refl
ends_count P [] (i ∷ items) h = absurd h
ends_count P (path ∷ paths) [] h = absurd h
ends_count P (path ∷ paths) (item.Split i j w ∷ items) h = let k = ends_count P (yes_side path i j w ∷ no_side path i j w ∷ paths) items h.1 in omega (arith, k)
ends_count P (path ∷ paths) (item.Leaf facts ∷ items) h = let k = ends_count P paths items h.1 in omega (arith, k)
ends_count P (path ∷ paths) (item.Closed chain ∷ items) h = let k = ends_count P paths items h.1 in omega (arith, k)
ends_count P (path ∷ paths) (item.Unsettled ∷ items) h = let k = ends_count P paths items h.1 in omega (arith, k)

ends_splits : (P : Path → Item → Type 0) (paths : List Path) (items : List Item) → EachOnPath P paths items → ends items ≡ splits items + length paths
unfolding ends
ends_splits P [] [] h = refl
ends_splits P [] (i ∷ items) h = absurd h
ends_splits P (path ∷ paths) [] h = absurd h
ends_splits P (path ∷ paths) (item.Split i j w ∷ items) h = let k = ends_splits P (yes_side path i j w ∷ no_side path i j w ∷ paths) items h.1 in omega (arith, k)
ends_splits P (path ∷ paths) (item.Leaf facts ∷ items) h = let k = ends_splits P paths items h.1 in omega (arith, k)
ends_splits P (path ∷ paths) (item.Closed chain ∷ items) h = let k = ends_splits P paths items h.1 in omega (arith, k)
ends_splits P (path ∷ paths) (item.Unsettled ∷ items) h = let k = ends_splits P paths items h.1 in omega (arith, k)

-- the number of the first end whose path the integers meet
place_in : (ℕ → ℤ) → List Path → List Item → ℕ
place_in x [] items = 0
place_in x (path ∷ paths) [] = 0
place_in x (path ∷ paths) (item.Split i j w ∷ items) = place_in x (yes_side path i j w ∷ no_side path i j w ∷ paths) items
place_in x (path ∷ paths) (item.Leaf facts ∷ items) = if meets x path then 0 else suc (place_in x paths items)
place_in x (path ∷ paths) (item.Closed chain ∷ items) = if meets x path then 0 else suc (place_in x paths items)
place_in x (path ∷ paths) (item.Unsettled ∷ items) = if meets x path then 0 else suc (place_in x paths items)

-- ---- where two lots of integers end in the same leaf

left_met : (x : ℕ → ℤ) (path : Path) (paths : List Path) → meets x path ≡ false → MeetsOne x (path ∷ paths) → MeetsOne x paths
unfolding MeetsOne
left_met x path paths e (inl m) = absurd (true≢false (sym (is_meets x path m) ∙ e))
left_met x path paths e (inr r) = r

split_met : (x : ℕ → ℤ) (path : Path) (i j : ℕ) (w : ℤ) (paths : List Path) → MeetsOne x (path ∷ paths) → MeetsOne x (yes_side path i j w ∷ no_side path i j w ∷ paths)
unfolding MeetsOne
split_met x path i j w paths (inl m) = elim (one_side x path i j w m) as (λ _. MeetsOne x (yes_side path i j w ∷ no_side path i j w ∷ paths)) [ inl y ↦ inl y | inr n ↦ inr (inl n) ]
split_met x path i j w paths (inr r) = inr (inr r)

end_below : (x : ℕ → ℤ) (path : Path) (paths : List Path) (p n : ℕ) → MeetsOne x (path ∷ paths) → (MeetsOne x paths → p < n) → (if meets x path then 0 else suc p) < suc n
end_below x path paths p n m again = go (meets x path) refl
  where
    go : (b : Bool) → meets x path ≡ b → (if b then 0 else suc p) < suc n
    go true e = omega arith
    go false e = let lt = again (left_met x path paths e m) in omega (arith, lt)

place_below : (pair : Pair) (x : ℕ → ℤ) (paths : List Path) (items : List Item) → EachOnPath (IsValidItem pair) paths items → MeetsOne x paths → place_in x paths items < ends items
unfolding MeetsOne place_in ends
place_below pair x [] items v m = absurd m
place_below pair x (path ∷ paths) [] v m = absurd v
place_below pair x (path ∷ paths) (item.Split i j w ∷ items) v m = place_below pair x (yes_side path i j w ∷ no_side path i j w ∷ paths) items v.1 (split_met x path i j w paths m)
place_below pair x (path ∷ paths) (item.Leaf facts ∷ items) v m = end_below x path paths (place_in x paths items) (ends items) m (λ r. place_below pair x paths items v.1 r)
place_below pair x (path ∷ paths) (item.Closed chain ∷ items) v m = end_below x path paths (place_in x paths items) (ends items) m (λ r. place_below pair x paths items v.1 r)
place_below pair x (path ∷ paths) (item.Unsettled ∷ items) v m = end_below x path paths (place_in x paths items) (ends items) m (λ r. place_below pair x paths items v.1 r)

-- a leaf whose path both meet
record SharesLeaf (pair : Pair) (x y : ℕ → ℤ) : Type 0 where
  path : Path
  facts : List Fact
  right : AreRight path facts
  equal : AreEqualForms (listed facts) (output_form (listed facts) pair.first pair.place) (output_form (listed facts) pair.second pair.place)
  first_meets : MeetsAll x path
  second_meets : MeetsAll y path

end_shared : (pair : Pair) (x y : ℕ → ℤ) (path : Path) (paths : List Path) (p q : ℕ) → MeetsOne x (path ∷ paths) → MeetsOne y (path ∷ paths) → (MeetsAll x path → MeetsAll y path → SharesLeaf pair x y) →
    (MeetsOne x paths → MeetsOne y paths → p ≡ q → SharesLeaf pair x y) → (if meets x path then 0 else suc p) ≡ (if meets y path then 0 else suc q) → SharesLeaf pair x y
end_shared pair x y path paths p q m k here again = go (meets x path) refl (meets y path) refl
  where
    go : (b : Bool) → meets x path ≡ b → (c : Bool) → meets y path ≡ c → (if b then 0 else suc p) ≡ (if c then 0 else suc q) → SharesLeaf pair x y
    go true e true f h = here (meets_is x path e) (meets_is y path f)
    go true e false f h = absurd (omega (arith, h))
    go false e true f h = absurd (omega (arith, h))
    go false e false f h = again (left_met x path paths e m) (left_met y path paths f k) (omega (arith, h))

shares_leaf : (pair : Pair) (x y : ℕ → ℤ) (paths : List Path) (items : List Item) → EachOnPath (IsValidItem pair) paths items → MeetsOne x paths → MeetsOne y paths → place_in x paths items ≡ place_in y paths items → SharesLeaf pair x y
unfolding MeetsOne place_in
shares_leaf pair x y [] items v m k e = absurd m
shares_leaf pair x y (path ∷ paths) [] v m k e = absurd v
shares_leaf pair x y (path ∷ paths) (item.Split i j w ∷ items) v m k e =
    shares_leaf pair x y (yes_side path i j w ∷ no_side path i j w ∷ paths) items v.1 (split_met x path i j w paths m) (split_met y path i j w paths k) e
shares_leaf pair x y (path ∷ paths) (item.Leaf facts ∷ items) v m k e =
    end_shared pair x y path paths (place_in x paths items) (place_in y paths items) m k
    (λ a b. record { path = path; facts = facts; right = v.0.1.0; equal = v.0.1.1; first_meets = a; second_meets = b })
    (shares_leaf pair x y paths items v.1) e
shares_leaf pair x y (path ∷ paths) (item.Closed chain ∷ items) v m k e =
    end_shared pair x y path paths (place_in x paths items) (place_in y paths items) m k (λ a b. absurd (none_meets x path chain a v.0.1)) (shares_leaf pair x y paths items v.1) e
shares_leaf pair x y (path ∷ paths) (item.Unsettled ∷ items) v m k e =
    end_shared pair x y path paths (place_in x paths items) (place_in y paths items) m k (λ a b. absurd v.0.1) (shares_leaf pair x y paths items v.1) e

-- ---- the two sides of a due split end in different leaves

undecided_is : (f : Form) → is_decided f ≡ false → f ≡ form.Undecided
undecided_is form.Never h = absurd (true≢false h)
undecided_is (form.Plus i c) h = absurd (true≢false h)
undecided_is form.Undecided h = refl

-- parts of decided terms are decided
decided_part : (known : Known) (s t : Tree) → IsIn s t → is_decided (term_form known t) ≡ true → is_decided (term_form known s) ≡ true
decided_part known s t u h = elim (cases_Bool (is_decided (term_form known s))) [
  | inl e ↦ e
  | inr e ↦ absurd (false≢true (sym (ap is_decided (inside_undecided known s t u (undecided_is (term_form known s) e))) ∙ h))
]

equal_decided : (known : Known) (f g : Form) → AreEqualForms known f g → (is_decided f ≡ true) × (is_decided g ≡ true)
equal_decided known form.Never form.Never h = (refl, refl)
equal_decided known (form.Plus i c) (form.Plus j d) h = (refl, refl)
equal_decided known form.Never (form.Plus j d) h = absurd h
equal_decided known form.Never form.Undecided h = absurd h
equal_decided known (form.Plus i c) form.Never h = absurd h
equal_decided known (form.Plus i c) form.Undecided h = absurd h
equal_decided known form.Undecided g h = absurd h

-- two decided forms of a term are the same, where integers meet both paths
same_plus : (x : ℕ → ℤ) (path other : Path) (facts more : List Fact) (t : Tree) (f : Form) → MeetsAll x path → MeetsAll x other → AreRight path facts → AreRight other more → term_form (listed facts) t ≡ f → is_decided f ≡ true →
    is_decided (term_form (listed more) t) ≡ true → term_form (listed more) t ≡ f
same_plus x path other facts more t f m k right right' e df dm =
    let all = holds_append x facts more (right_holds x path m facts right) (right_holds x other k more right') in
    sym (stays x (listed more) (listed (facts ++ more)) (within_last facts more) all t dm)
    ∙ (stays x (listed facts) (listed (facts ++ more)) (within_append facts more) all t (ap is_decided e ∙ df) ∙ e)

chosen_answer : (o : Option Bool) (f g : Form) → is_decided (chosen o f g) ≡ true → (b : Bool) × (o ≡ Some b)
chosen_answer (Some b) f g h = (b, refl)
chosen_answer None f g h = absurd (false≢true h)

operator_answer : (known : Known) (t a b : Tree) (i c j d : ℕ) → Compares t a b → term_form known a ≡ form.Plus i c → term_form known b ≡ form.Plus j d → is_decided (term_form known t) ≡ true → (o : Bool) × (compared known i c j d ≡ Some o)
operator_answer known t a b i c j d is ea eb h = elim is [
  | inl e ↦ chosen_answer (compared known i c j d) (form.Plus i c) (form.Plus j d) (sym (ap is_decided (ap (term_form known) e ∙ (λ k. min_form known (ea k) (eb k)))) ∙ h)
  | inr r ↦ elim r [
    | inl e ↦ chosen_answer (compared known i c j d) (form.Plus j d) (form.Plus i c) (sym (ap is_decided (ap (term_form known) e ∙ (λ k. max_form known (ea k) (eb k)))) ∙ h)
    | inr e ↦ chosen_answer (compared known i c j d) form.Never (form.Plus j d) (sym (ap is_decided (ap (term_form known) e ∙ (λ k. lt_form known (eb k) (ea k)))) ∙ h)
  ]
]

some_same : (a b : Bool) → Some a ≡ Some b → a ≡ b
some_same a b e = ap or_true e
  where
    or_true : Option Bool → Bool
    or_true (Some x) = x
    or_true None = true

yes_at : (x : ℕ → ℤ) (known : Known) → HoldsAt x known → (i c j d : ℕ) → compared known i c j d ≡ Some true → (x i -ℤ x j) ≤ℤ (pos d -ℤ pos c)
yes_at x known holds i c j d h = go (nat_eq i j) refl (known i j (pos d -ℤ pos c)) refl (known j i ((pos c -ℤ pos d) -ℤ pos 1)) h
  where
    go : (p : Bool) → nat_eq i j ≡ p → (q : Bool) → known i j (pos d -ℤ pos c) ≡ q → (r : Bool) → (if p then Some (nat_le c d) else (if q then Some true else (if r then Some false else None))) ≡ Some true →
        (x i -ℤ x j) ≤ℤ (pos d -ℤ pos c)
    go true e q eq r h =
        let le : c ≤ d = let t = some_same (nat_le c d) true h in grind (arith, nat_tests, t) in
        let same : x i ≡ x j = ap x (equal i j e) in
        omega (arith, ints, le, same)
    go false e true eq r h = holds i j _ eq
    go false e false eq true h = absurd (true≢false (sym (some_same false true h)))
    go false e false eq false h = absurd (none-some true h)

-- parts of the two terms are decided where the outputs have equal forms
part_decided : (pair : Pair) (known : Known) (t : Tree) → IsTrue (is_among t (all_subterms (pair_terms pair))) → AreEqualForms known (output_form known pair.first pair.place) (output_form known pair.second pair.place) → is_decided (term_form known t) ≡ true
part_decided pair known t part equal =
    let both = equal_decided known (output_form known pair.first pair.place) (output_form known pair.second pair.place) equal in
    let place = all_among t (pair_terms pair) Never part in
    go place.0 place.1 place.2 both.0 both.1
  where
    go : (k : ℕ) → k < 2 → IsIn t (slice_index_or (pair_terms pair) k Never) → is_decided (output_form known pair.first pair.place) ≡ true → is_decided (output_form known pair.second pair.place) ≡ true → is_decided (term_form known t) ≡ true
    go zero lt u p q = decided_part known t (tree_in (network_trees pair.first) pair.place) u (sym (ap is_decided (network_form known pair.first pair.place)) ∙ p)
    go (suc zero) lt u p q = decided_part known t (tree_in (network_trees pair.second) pair.place) u (sym (ap is_decided (network_form known pair.second pair.place)) ∙ q)
    go (suc (suc k)) lt u p q = absurd (omega (arith, lt))

due_apart : (pair : Pair) (path : Path) (i j c d : ℕ) (w : ℤ) → w ≡ (pos d -ℤ pos c) → IsDue (pair_terms pair) path i c j d → (x y : ℕ → ℤ) → MeetsAll x (yes_side path i j w) → MeetsAll y (no_side path i j w) → SharesLeaf pair x y → ⊥
due_apart pair path i j c d w e due x y mx my s = answered answer.0 answer.1
  where
    known : Known
    known = listed s.facts

    operator_decided : is_decided (term_form known due.operator) ≡ true
    operator_decided = part_decided pair known due.operator due.part s.equal

    meets_path : MeetsAll x path
    meets_path = meets_fewer x path (assumption i j w ∷ []) mx

    a_part : IsIn due.a due.operator
    a_part = elim due.compares [
      | inl q ↦ subst (IsIn due.a) (sym q) (inr (inl (in_self due.a)))
      | inr r ↦ elim r [ inl q ↦ subst (IsIn due.a) (sym q) (inr (inl (in_self due.a))) | inr q ↦ subst (IsIn due.a) (sym q) (inr (inr (in_self due.a))) ]
    ]

    b_part : IsIn due.b due.operator
    b_part = elim due.compares [
      | inl q ↦ subst (IsIn due.b) (sym q) (inr (inr (in_self due.b)))
      | inr r ↦ elim r [ inl q ↦ subst (IsIn due.b) (sym q) (inr (inr (in_self due.b))) | inr q ↦ subst (IsIn due.b) (sym q) (inr (inl (in_self due.b))) ]
    ]

    a_form : term_form known due.a ≡ form.Plus i c
    a_form = same_plus x path s.path due.a_is.0 s.facts due.a (form.Plus i c) meets_path s.first_meets due.a_is.1 s.right due.a_is.2 refl (decided_part known due.a due.operator a_part operator_decided)

    b_form : term_form known due.b ≡ form.Plus j d
    b_form = same_plus x path s.path due.b_is.0 s.facts due.b (form.Plus j d) meets_path s.first_meets due.b_is.1 s.right due.b_is.2 refl (decided_part known due.b due.operator b_part operator_decided)

    answer : (o : Bool) × (compared known i c j d ≡ Some o)
    answer = operator_answer known due.operator due.a due.b i c j d due.compares a_form b_form operator_decided

    answered : (o : Bool) → compared known i c j d ≡ Some o → ⊥
    answered true h =
        let le = yes_at y known (right_holds y s.path s.second_meets s.facts s.right) i c j d h in
        let later = meets_last y path (assumption j i (neg_ℤ w -ℤ pos 1)) my in
        absurd (omega (arith, ints, le, later, e))
    answered false h =
        let later = no_at x known (right_holds x s.path s.first_meets s.facts s.right) i c j d h in
        let le = meets_last x path (assumption i j w) mx in
        absurd (omega (arith, ints, le, later, e))

-- ---- integers for each end of a tree

all_map : {A : Type 0} (P Q : A → Type 0) → ((x : A) → P x → Q x) → (xs : List A) → AllByRecursion P xs → AllByRecursion Q xs
all_map P Q f [] h = tt
all_map P Q f (x ∷ xs) h = (f x h.0, all_map P Q f xs h.1)

eqb_apart : (a b : ℕ) → (a ≡ b → ⊥) → eqb a b ≡ false
eqb_apart a b n = ne_eqb a b n

module _ (pair : Pair) (premises : List Assume) (others : List Item) (valid : IsValid premises pair others) where
  hit : (ℕ → ℤ) → ℕ
  hit x = place_in x (root premises ∷ []) others

  -- integers that meet the first end elsewhere than those that meet the second
  Apart : Path → Path → Type 0
  Apart p q = (x y : ℕ → ℤ) → MeetsAll x p → MeetsAll y q → hit x ≡ hit y → ⊥

  AreApart : List Path → Type 0
  AreApart [] = Unit {0}
  AreApart (p ∷ ps) = AllByRecursion (Apart p) ps × AreApart ps

  FromRoot : Path → Type 0
  FromRoot p = (x : ℕ → ℤ) → MeetsAll x p → MeetsAll x (root premises)

  record Points (paths : List Path) (n : ℕ) : Type 0 where
    points : List (ℕ → ℤ)
    long : length points ≡ n
    met : AllByRecursion (λ x. MeetsOne x paths) points
    apart : IsDistinct eqb (map hit points)

  from_one : (x : ℕ → ℤ) (paths : List Path) → AllByRecursion FromRoot paths → MeetsOne x paths → MeetsAll x (root premises)
  unfolding MeetsOne FromRoot
  from_one x [] h m = absurd m
  from_one x (p ∷ paths) h (inl m) = h.0 x m
  from_one x (p ∷ paths) h (inr r) = from_one x paths h.1 r

  apart_one : (p : Path) (paths : List Path) → AllByRecursion (Apart p) paths → (x y : ℕ → ℤ) → MeetsAll x p → MeetsOne y paths → hit x ≡ hit y → ⊥
  unfolding MeetsOne Apart
  apart_one p [] h x y mx my e = my
  apart_one p (q ∷ paths) h x y mx (inl my) e = h.0 x y mx my e
  apart_one p (q ∷ paths) h x y mx (inr r) e = apart_one p paths h.1 x y mx r e

  apart_hits : (k : ℕ) (points : List (ℕ → ℤ)) → AllByRecursion (λ y. k ≡ hit y → ⊥) points → AllByRecursion (λ v. eqb k v ≡ false) (map hit points)
  apart_hits k [] h = tt
  apart_hits k (y ∷ points) h = (eqb_apart k (hit y) h.0, apart_hits k points h.1)

  one_more : (path : Path) (paths : List Path) (n : ℕ) → CanBeMet path → AllByRecursion (Apart path) paths → Points paths n → Points (path ∷ paths) (suc n)
  unfolding MeetsOne IsDistinct
  one_more path paths n can sep p = record {
    points = can.0 ∷ p.points;
    long = let l = p.long in omega (arith, l);
    met = (inl can.1, all_map (λ x. MeetsOne x paths) (λ x. MeetsOne x (path ∷ paths)) (λ x m. inr m) p.points p.met);
    apart = (apart_hits (hit can.0) p.points (all_map (λ x. MeetsOne x paths) (λ y. hit can.0 ≡ hit y → ⊥) (λ y m. apart_one path paths sep can.0 y can.1 m) p.points p.met), p.apart);
  }

  split_back : (path : Path) (i j : ℕ) (w : ℤ) (paths : List Path) (x : ℕ → ℤ) → MeetsOne x (yes_side path i j w ∷ no_side path i j w ∷ paths) → MeetsOne x (path ∷ paths)
  unfolding MeetsOne
  split_back path i j w paths x (inl m) = inl (meets_fewer x path (assumption i j w ∷ []) m)
  split_back path i j w paths x (inr (inl m)) = inl (meets_fewer x path (assumption j i (neg_ℤ w -ℤ pos 1) ∷ []) m)
  split_back path i j w paths x (inr (inr r)) = inr r

  two_more : (path : Path) (paths : List Path) (n : ℕ) (x y : ℕ → ℤ) → MeetsAll x path → MeetsAll y path → (hit x ≡ hit y → ⊥) → AllByRecursion (Apart path) paths → Points paths n → Points (path ∷ paths) (suc (suc n))
  unfolding MeetsOne IsDistinct
  two_more path paths n x y mx my two sep p = record {
    points = x ∷ y ∷ p.points;
    long = let l = p.long in omega (arith, l);
    met = (inl mx, (inl my, all_map (λ x. MeetsOne x paths) (λ x. MeetsOne x (path ∷ paths)) (λ x m. inr m) p.points p.met));
    apart = (
      apart_hits (hit x) (y ∷ p.points) (two, all_map (λ x. MeetsOne x paths) (λ z. hit x ≡ hit z → ⊥) (λ z m. apart_one path paths sep x z mx m) p.points p.met),
      (apart_hits (hit y) p.points (all_map (λ x. MeetsOne x paths) (λ z. hit y ≡ hit z → ⊥) (λ z m. apart_one path paths sep y z my m) p.points p.met), p.apart),
    );
  }

  -- paths that can be met, begin with the premises, and end apart
  record ArePaths (paths : List Path) : Type 0 where
    can : AllByRecursion CanBeMet paths
    from : AllByRecursion FromRoot paths
    apart : AreApart paths

  sides_apart : (path : Path) (i j c d : ℕ) (w : ℤ) → w ≡ (pos d -ℤ pos c) → IsDue (pair_terms pair) path i c j d → FromRoot path → Apart (yes_side path i j w) (no_side path i j w)
  unfolding Apart FromRoot MeetsOne hit
  sides_apart path i j c d w e due from x y mx my same =
      due_apart pair path i j c d w e due x y mx my
      (shares_leaf pair x y (root premises ∷ []) others valid (inl (from x (meets_fewer x path (assumption i j w ∷ []) mx))) (inl (from y (meets_fewer y path (assumption j i (neg_ℤ w -ℤ pos 1) ∷ []) my))) same)

  split_paths : (path : Path) (i j : ℕ) (w : ℤ) (paths : List Path) → IsDueItem (pair_terms pair) path (item.Split i j w) → ArePaths (path ∷ paths) → ArePaths (yes_side path i j w ∷ no_side path i j w ∷ paths)
  unfolding Apart AreApart FromRoot
  split_paths path i j w paths due are =
      let c = due.0 in
      let d = due.1 in
      let e = due.2 in
      let is_due = due.3 in
      record {
        can = (
          subst (λ u. CanBeMet (path ++ assumption i j u ∷ [])) (sym e) (open_yes path i c j d are.can.0 is_due.undecided),
          (subst (λ u. CanBeMet (path ++ assumption j i (neg_ℤ u -ℤ pos 1) ∷ [])) (sym e) (open_no path i c j d are.can.0 is_due.undecided), are.can.1),
        );
        from = (
          λ x m. are.from.0 x (meets_fewer x path (assumption i j w ∷ []) m),
          (λ x m. are.from.0 x (meets_fewer x path (assumption j i (neg_ℤ w -ℤ pos 1) ∷ []) m), are.from.1),
        );
        apart = (
          (
            sides_apart path i j c d w e is_due are.from.0,
            all_map (Apart path) (Apart (yes_side path i j w)) (λ q h x y mx my. h x y (meets_fewer x path (assumption i j w ∷ []) mx) my) paths are.apart.0,
          ),
          (all_map (Apart path) (Apart (no_side path i j w)) (λ q h x y mx my. h x y (meets_fewer x path (assumption j i (neg_ℤ w -ℤ pos 1) ∷ []) mx) my) paths are.apart.0, are.apart.1),
        );
      }

  next_paths : (path : Path) (paths : List Path) → ArePaths (path ∷ paths) → ArePaths paths
  unfolding AreApart
  next_paths path paths are = record { can = are.can.1; from = are.from.1; apart = are.apart.1 }

  first_apart : (path : Path) (paths : List Path) → ArePaths (path ∷ paths) → AllByRecursion (Apart path) paths
  unfolding AreApart
  first_apart path paths are = are.apart.0

  points_back : (path : Path) (i j : ℕ) (w : ℤ) (paths : List Path) (n : ℕ) → Points (yes_side path i j w ∷ no_side path i j w ∷ paths) n → Points (path ∷ paths) n
  points_back path i j w paths n p = record {
    points = p.points;
    long = p.long;
    met = all_map (λ x. MeetsOne x (yes_side path i j w ∷ no_side path i j w ∷ paths)) (λ x. MeetsOne x (path ∷ paths)) (split_back path i j w paths) p.points p.met;
    apart = p.apart;
  }

  -- integers for each end
  points_of : (paths : List Path) (items : List Item) → EachOnPath (IsDueItem (pair_terms pair)) paths items → ArePaths paths → Points paths (ends items)
  unfolding ends IsDistinct
  points_of [] [] due are = record { points = []; long = refl; met = tt; apart = tt }
  points_of [] (i ∷ items) due are = absurd due
  points_of (path ∷ paths) [] due are = absurd due
  points_of (path ∷ paths) (item.Split i j w ∷ items) due are =
      points_back path i j w paths (ends items) (points_of (yes_side path i j w ∷ no_side path i j w ∷ paths) items due.1 (split_paths path i j w paths due.0 are))
  points_of (path ∷ paths) (item.Leaf facts ∷ items) due are = one_more path paths (ends items) are.can.0 (first_apart path paths are) (points_of paths items due.1 (next_paths path paths are))
  points_of (path ∷ paths) (item.Closed chain ∷ items) due are = one_more path paths (ends items) are.can.0 (first_apart path paths are) (points_of paths items due.1 (next_paths path paths are))
  points_of (path ∷ paths) (item.Unsettled ∷ items) due are = one_more path paths (ends items) are.can.0 (first_apart path paths are) (points_of paths items due.1 (next_paths path paths are))

  -- where an output is undecided, two lots of integers that meet the path end apart
  record EndsApart (path : Path) : Type 0 where
    x : ℕ → ℤ
    y : ℕ → ℤ
    first_meets : MeetsAll x path
    second_meets : MeetsAll y path
    apart : hit x ≡ hit y → ⊥

  undecided_apart : (path : Path) (k : ℕ) → k < 2 → CanBeMet path → FromRoot path → IsUndecided path (slice_index_or (pair_terms pair) k Never) → EndsApart path
  unfolding Apart
  undecided_apart path k lt can from undecided = elim (form_or_due path (slice_index_or (pair_terms pair) k Never) can) [
    | inl f ↦ absurd (false≢true (sym (ap is_decided (undecided f.facts f.right)) ∙ f.decided))
    | inr due ↦
        let yes = open_yes path due.i due.c due.j due.d can due.undecided in
        let other = open_no path due.i due.c due.j due.d can due.undecided in
        let is_due : IsDue (pair_terms pair) path due.i due.c due.j due.d = record {
          operator = due.operator;
          a = due.a;
          b = due.b;
          part = among_all due.operator (pair_terms pair) k Never lt due.inside;
          compares = due.compares;
          a_is = due.a_is;
          b_is = due.b_is;
          undecided = due.undecided;
        } in
        record {
          x = yes.0;
          y = other.0;
          first_meets = meets_fewer yes.0 path (assumption due.i due.j (pos due.d -ℤ pos due.c) ∷ []) yes.1;
          second_meets = meets_fewer other.0 path (assumption due.j due.i (neg_ℤ (pos due.d -ℤ pos due.c) -ℤ pos 1) ∷ []) other.1;
          apart = sides_apart path due.i due.j due.c due.d (pos due.d -ℤ pos due.c) refl is_due from yes.0 other.0 yes.1 other.1;
        }
  ]

  unsettled_apart : (path : Path) → CanBeMet path → FromRoot path → IsUnsettledItem (pair_terms pair) path item.Unsettled → EndsApart path
  unsettled_apart path can from u = elim u [
    | inl a ↦ undecided_apart path 0 (omega arith) can from a
    | inr r ↦ elim r [ inl b ↦ undecided_apart path 1 (omega arith) can from b | inr e ↦ absurd e ]
  ]

  -- with an open item at which an output is undecided, there is one more
  points_more : (paths : List Path) (items : List Item) → EachOnPath (IsDueItem (pair_terms pair)) paths items → OneOnPath (IsUnsettledItem (pair_terms pair)) paths items → ArePaths paths → Points paths (suc (ends items))
  unfolding ends
  points_more [] items due one are = absurd one
  points_more (path ∷ paths) [] due one are = absurd one
  points_more (path ∷ paths) (item.Split i j w ∷ items) due one are = elim one [
    | inl e ↦ absurd e
    | inr rest ↦ points_back path i j w paths (suc (ends items)) (points_more (yes_side path i j w ∷ no_side path i j w ∷ paths) items due.1 rest (split_paths path i j w paths due.0 are))
  ]
  points_more (path ∷ paths) (item.Leaf facts ∷ items) due one are = elim one [
    | inl e ↦ absurd e
    | inr rest ↦ one_more path paths (suc (ends items)) are.can.0 (first_apart path paths are) (points_more paths items due.1 rest (next_paths path paths are))
  ]
  points_more (path ∷ paths) (item.Closed chain ∷ items) due one are = elim one [
    | inl e ↦ absurd e
    | inr rest ↦ one_more path paths (suc (ends items)) are.can.0 (first_apart path paths are) (points_more paths items due.1 rest (next_paths path paths are))
  ]
  points_more (path ∷ paths) (item.Unsettled ∷ items) due one are = elim one [
    | inl u ↦
        let two = unsettled_apart path are.can.0 are.from.0 u in
        two_more path paths (ends items) two.x two.y two.first_meets two.second_meets two.apart (first_apart path paths are) (points_of paths items due.1 (next_paths path paths are))
    | inr rest ↦ one_more path paths (suc (ends items)) are.can.0 (first_apart path paths are) (points_more paths items due.1 rest (next_paths path paths are))
  ]

  below_all : (n : ℕ) (ks : List ℕ) → AllByRecursion (λ k. k < n) ks → (q : ℕ) → list_any (eqb q) ks ≡ true → q < n
  below_all n [] h q e = absurd (false≢true e)
  below_all n (k ∷ ks) h q e = elim (or_cases (eqb q k) (list_any (eqb q) ks) e) [
    | inl a ↦ let s = eqb-true q k a in let l = h.0 in omega (arith, s, l)
    | inr b ↦ below_all n ks h.1 q b
  ]

  hits_below : (paths : List Path) → AllByRecursion FromRoot paths → (points : List (ℕ → ℤ)) → AllByRecursion (λ x. MeetsOne x paths) points → AllByRecursion (λ k. k < ends others) (map hit points)
  unfolding hit MeetsOne
  hits_below paths from [] h = tt
  hits_below paths from (x ∷ points) h = (place_below pair x (root premises ∷ []) others valid (inl (from_one x paths from h.0)), hits_below paths from points h.1)

  length_hits : (points : List (ℕ → ℤ)) → length (map hit points) ≡ length points
  length_hits [] = refl
  length_hits (x ∷ points) = ap suc (length_hits points)

  root_met : CanBeMet (root premises)
  root_met = elim (solved (root premises)) [ inl s ↦ (s.x, s.meets) | inr r ↦ absurd (root_is_possible premises (λ met. none_meets met.0 (root premises) r.0 met.1 r.1)) ]

  root_paths : ArePaths (root premises ∷ [])
  unfolding AreApart FromRoot
  root_paths = record { can = (root_met, tt); from = ((λ x m. m), tt); apart = (tt, tt) }

  few_ends : (n : ℕ) → Points (root premises ∷ []) n → n ≤ ends others
  few_ends n p =
      let few = length-le_from_distinct_below (map hit p.points) (ends others) p.apart (below_all (ends others) (map hit p.points) (hits_below (root premises ∷ []) root_paths.from p.points p.met)) in
      let a = length_hits p.points in
      let b = p.long in
      omega (arith, few, a, b)

  pub due_is_least : (items : List Item) → EachOnPath (IsDueItem (pair_terms pair)) (root premises ∷ []) items → length items ≤ length others
  due_is_least items due =
      let few = few_ends (ends items) (points_of (root premises ∷ []) items due root_paths) in
      let c = ends_count (IsDueItem (pair_terms pair)) (root premises ∷ []) items due in
      let d = ends_count (IsValidItem pair) (root premises ∷ []) others valid in
      omega (arith, few, c, d)

  pub live_is_less : (items : List Item) → EachOnPath (IsDueItem (pair_terms pair)) (root premises ∷ []) items → OneOnPath (IsUnsettledItem (pair_terms pair)) (root premises ∷ []) items → opened items + 2 ≤ length others
  live_is_less items due one =
      let few = few_ends (suc (ends items)) (points_more (root premises ∷ []) items due one root_paths) in
      let c = ends_splits (IsDueItem (pair_terms pair)) (root premises ∷ []) items due in
      let d = ends_count (IsValidItem pair) (root premises ∷ []) others valid in
      omega (arith, few, c, d)
