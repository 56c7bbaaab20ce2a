-- The verdict is that nothing is wrong exactly where the tree is valid.
use Rattle.std.proofs.Common.{◌≡◌, ℕ, ◌+◌, List, [], ◌∷◌, ◌++◌, length, refl, sym, ap, ◌∙◌, arith, Bool, true, false}
use Rattle.std.specs.Prelude.{Option, Some, None, not, if◌then◌else◌}
use Rattle.std.specs.List.{AllByRecursion}
use Rattle.std.proofs.lemmas.Bool.{false≢true}
use Rattle.net_model.specs.declared.assume.Assume.{Assume}
use Rattle.refutation.specs.declared.item.Item.{Item}
use Rattle.refutation.specs.declared.item.Item.TheVariants as item
use Rattle.refutation.specs.declared.item.Fact.{Fact}
use Rattle.refutation.specs.Path.{is_negative}
use Rattle.refutation.specs.Cases.{Path, EachOnPath, below}
use Rattle.tree_check.specs.declared.fault.Flaw.{Flaw}
use Rattle.tree_check.specs.declared.fault.Flaw.TheVariants as flaw
use Rattle.tree_check.specs.declared.form.Form.{Form}
use Rattle.tree_check.specs.declared.form.Form.TheVariants.{Never, Plus, Undecided}
use Rattle.tree_check.specs.Forms.{Known, compared, output_form, is_decided, AreEqualForms}
use Rattle.tree_check.specs.Valid.{Pair, is_right, listed, names_inputs, root, Shows, IsValidItem, IsValid}
use Rattle.tree_check.specs.Verdict.{is_yes, are_equal_forms, bad_fact, unless, forms_flaw, or_bad, item_flaw, subtrees, misshapen, first_fault, flawed, or_misshapen, verdict}

-- the test of equal forms is right
yes-is : (o : Option Bool) → is_yes o ≡ true → o ≡ Some true
yes-is (Some true) h = refl
yes-is (Some false) h = absurd (false≢true h)
yes-is None h = absurd (false≢true h)

both-yes : (o p : Option Bool) → (if is_yes o then is_yes p else false) ≡ true → (o ≡ Some true) × (p ≡ Some true)
both-yes o p h = go (is_yes o) refl h
  where
    go : (b : Bool) → is_yes o ≡ b → (if b then is_yes p else false) ≡ true → (o ≡ Some true) × (p ≡ Some true)
    go true e h = (yes-is o e, yes-is p h)
    go false e h = absurd (false≢true h)

equal-of-test : (known : Known) (g h : Form) → are_equal_forms known g h ≡ true → AreEqualForms known g h
equal-of-test known Never Never e = tt
equal-of-test known Never (Plus j d) e = absurd (false≢true e)
equal-of-test known Never Undecided e = absurd (false≢true e)
equal-of-test known (Plus i c) Never e = absurd (false≢true e)
equal-of-test known (Plus i c) (Plus j d) e = both-yes (compared known i c j d) (compared known j d i c) e
equal-of-test known (Plus i c) Undecided e = absurd (false≢true e)
equal-of-test known Undecided h e = absurd (false≢true e)

forms-none : (known : Known) (g h : Form) → AreEqualForms known g h → forms_flaw known g h ≡ None
forms-none known Never Never e = refl
forms-none known Never (Plus j d) e = absurd e
forms-none known Never Undecided e = absurd e
forms-none known (Plus i c) Never e = absurd e
forms-none known (Plus i c) (Plus j d) e = rw (e.0, e.1) refl
forms-none known (Plus i c) Undecided e = absurd e
forms-none known Undecided h e = absurd e

equal-of-none : (known : Known) (g h : Form) → forms_flaw known g h ≡ None → AreEqualForms known g h
equal-of-none known g h e = equal-of-test known g h (go (is_decided g) (is_decided h) (are_equal_forms known g h) refl e)
  where
    go : (a b c : Bool) → are_equal_forms known g h ≡ c → (if not a then Some (flaw.NotDecided 1) else (if not b then Some (flaw.NotDecided 2) else (if c then None else Some flaw.Unequal))) ≡ None → are_equal_forms known g h ≡ true
    go true true true is e = is
    go true true false is e = absurd (cc (e))
    go true false c is e = absurd (cc (e))
    go false b c is e = absurd (cc (e))

bad-none : (path : Path) (n : ℕ) (facts : List Fact) → AllByRecursion (λ f. is_right path f ≡ true) facts → bad_fact path n facts ≡ None
bad-none path n [] h = refl
bad-none path n (f ∷ facts) h = rw h.0 (bad-none path (n + 1) facts h.1)

right-of-none : (path : Path) (n : ℕ) (facts : List Fact) → bad_fact path n facts ≡ None → AllByRecursion (λ f. is_right path f ≡ true) facts
right-of-none path n [] e = tt
right-of-none path n (f ∷ facts) e = go (is_right path f) refl e (right-of-none path (n + 1) facts)
  where
    go : (b : Bool) → is_right path f ≡ b → (if b then bad_fact path (n + 1) facts else Some n) ≡ None → (bad_fact path (n + 1) facts ≡ None → AllByRecursion (λ f. is_right path f ≡ true) facts) →
        AllByRecursion (λ f. is_right path f ≡ true) (f ∷ facts)
    go true is e again = (is, again e)
    go false is e again = absurd (cc (e))

-- an item without a flaw shows what it has to, and the other way round
module _ (pair : Pair) (path : Path) where
  leaf-shows : (facts : List Fact) → item_flaw pair path (item.Leaf facts) ≡ None → Shows pair path (item.Leaf facts)
  leaf-shows facts e = go (bad_fact path 0 facts) refl e
    where
      go : (o : Option ℕ) → bad_fact path 0 facts ≡ o → or_bad o (forms_flaw (listed facts) (output_form (listed facts) pair.first pair.place) (output_form (listed facts) pair.second pair.place)) ≡ None → Shows pair path (item.Leaf facts)
      go (Some n) is e = absurd (cc (e))
      go None is e = (right-of-none path 0 facts is, equal-of-none (listed facts) (output_form (listed facts) pair.first pair.place) (output_form (listed facts) pair.second pair.place) e)

  pub shows-of-none : (i : Item) → item_flaw pair path i ≡ None → Shows pair path i
  shows-of-none (item.Split i j w) e = tt
  shows-of-none (item.Leaf facts) e = leaf-shows facts e
  shows-of-none (item.Closed chain) e = go (is_negative path chain) refl e
    where
      go : (b : Bool) → is_negative path chain ≡ b → unless b flaw.NotNegative ≡ None → is_negative path chain ≡ true
      go true is e = is
      go false is e = absurd (cc (e))
  shows-of-none item.Unsettled e = absurd (cc (e))

  pub flaw-none : (i : Item) → Shows pair path i → item_flaw pair path i ≡ None
  flaw-none (item.Split i j w) h = refl
  flaw-none (item.Leaf facts) h = rw (bad-none path 0 facts h.0) (forms-none (listed facts) (output_form (listed facts) pair.first pair.place) (output_form (listed facts) pair.second pair.place) h.1)
  flaw-none (item.Closed chain) h = rw h refl
  flaw-none item.Unsettled h = absurd h

pub below-subtrees : (path : Path) (i : Item) (paths : List Path) → length (below path i ++ paths) ≡ subtrees i + length paths
below-subtrees path (item.Split i j w) paths = omega arith
below-subtrees path (item.Leaf facts) paths = omega arith
below-subtrees path (item.Closed chain) paths = omega arith
below-subtrees path item.Unsettled paths = omega arith

module _ (pair : Pair) where
  abbrev inputs : ℕ
  inputs = length pair.first.inputs

  valid-from : (paths : List Path) (place : ℕ) (items : List Item) → misshapen inputs (length paths) place items ≡ None → flawed pair paths place items ≡ None → EachOnPath (IsValidItem pair) paths items
  valid-from [] place [] s f = tt
  valid-from [] place (i ∷ items) s f = absurd (cc (s))
  valid-from (path ∷ paths) place [] s f = absurd (cc (s))
  valid-from (path ∷ paths) place (i ∷ items) s f = go (names_inputs inputs i) refl s (item_flaw pair path i) refl f (valid-from (below path i ++ paths) (place + 1) items)
    where
      go : (a : Bool) → names_inputs inputs i ≡ a → (if a then misshapen inputs (subtrees i + length paths) (place + 1) items else Some place) ≡ None →
          (o : Option Flaw) → item_flaw pair path i ≡ o → first_fault place o (flawed pair (below path i ++ paths) (place + 1) items) ≡ None →
          (misshapen inputs (length (below path i ++ paths)) (place + 1) items ≡ None → flawed pair (below path i ++ paths) (place + 1) items ≡ None → EachOnPath (IsValidItem pair) (below path i ++ paths) items) →
          EachOnPath (IsValidItem pair) (path ∷ paths) (i ∷ items)
      go false is s o flaw-is f again = absurd (cc (s))
      go true is s (Some w) flaw-is f again = absurd (cc (f))
      go true is s None flaw-is f again = ((is, shows-of-none pair path i flaw-is), again (rw (below-subtrees path i paths) s) f)

  misshapen-none : (paths : List Path) (place : ℕ) (items : List Item) → EachOnPath (IsValidItem pair) paths items → misshapen inputs (length paths) place items ≡ None
  misshapen-none [] place [] v = refl
  misshapen-none [] place (i ∷ items) v = absurd v
  misshapen-none (path ∷ paths) place [] v = absurd v
  misshapen-none (path ∷ paths) place (i ∷ items) v = rw (v.0.0, sym (below-subtrees path i paths)) (misshapen-none (below path i ++ paths) (place + 1) items v.1)

  flawed-none : (paths : List Path) (place : ℕ) (items : List Item) → EachOnPath (IsValidItem pair) paths items → flawed pair paths place items ≡ None
  flawed-none [] place items v = refl
  flawed-none (path ∷ paths) place [] v = absurd v
  flawed-none (path ∷ paths) place (i ∷ items) v = rw (flaw-none pair path i v.0.1) (flawed-none (below path i ++ paths) (place + 1) items v.1)

  pub valid-of-verdict : (premises : List Assume) (items : List Item) → verdict premises pair items ≡ None → IsValid premises pair items
  valid-of-verdict premises items e = go (misshapen inputs 1 0 items) refl e
    where
      go : (o : Option ℕ) → misshapen inputs 1 0 items ≡ o → or_misshapen o (flawed pair (root premises ∷ []) 0 items) ≡ None → IsValid premises pair items
      go (Some p) is e = absurd (cc (e))
      go None is e = valid-from (root premises ∷ []) 0 items is e

  pub verdict-of-valid : (premises : List Assume) (items : List Item) → IsValid premises pair items → verdict premises pair items ≡ None
  verdict-of-valid premises items v =
      ap (λ (o : Option ℕ). or_misshapen o (flawed pair (root premises ∷ []) 0 items)) (misshapen-none (root premises ∷ []) 0 items v)
      ∙ flawed-none (root premises ∷ []) 0 items v
