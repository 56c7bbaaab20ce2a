-- No constant of a form is greater than the span, so the sums stay small.
use Rattle.std.proofs.Common.{◌≡◌, ℕ, zero, suc, ◌+◌, ◌≤◌, ◌<◌, List, [], ◌∷◌, ◌++◌, length, take, drop, get_or, map, sym, ap, subst, ◌∙◌, arith, drop-cons, Bool, true, false}
use Rattle.std.specs.Prelude.{fold, Option, Some, None, slice_index_or}
use Rattle.std.proofs.lemmas.List.{take-append-drop}
use Rattle.net_model.specs.Formula as f
use Rattle.net_model.specs.Formula.{Formula, Equation, Net}
use Rattle.net_model.specs.Rules.{span, let_spans, IsNetwork}
use Rattle.spike_eval.proofs.Late.{AreShort, let_is_short}
use Rattle.tree_check.specs.declared.form.Form.{Form}
use Rattle.tree_check.specs.declared.form.Form.TheVariants.{Never, Plus, Undecided}
use Rattle.tree_check.specs.Forms.{Known, compared, chosen, min_form, max_form, lt_form, inc_form, form_at, form, let_forms, output_form}
use Rattle.tree_check.specs.Room.{IsWithin, FormHasRoom}

within-le : (g : Form) (m n : ℕ) → m ≤ n → IsWithin m g → IsWithin n g
within-le Never m n le h = tt
within-le Undecided m n le h = tt
within-le (Plus i c) m n le h = omega (arith, le, h)

chosen-within : (o : Option Bool) (g h : Form) (n : ℕ) → IsWithin n g → IsWithin n h → IsWithin n (chosen o g h)
chosen-within (Some true) g h n p q = p
chosen-within (Some false) g h n p q = q
chosen-within None g h n p q = tt

-- each form is within its span
abbrev AreWithin : List ℕ → List Form → Type 0
AreWithin [] [] = Unit {0}
AreWithin (s ∷ spans) (g ∷ forms) = IsWithin s g × AreWithin spans forms
AreWithin [] (g ∷ forms) = ⊥
AreWithin (s ∷ spans) [] = ⊥

within-at : (spans : List ℕ) (forms : List Form) (j : ℕ) → AreWithin spans forms → IsWithin (slice_index_or spans j 0) (form_at forms j)
within-at [] [] j h = tt
within-at [] (g ∷ forms) j h = absurd h
within-at (s ∷ spans) [] j h = absurd h
within-at (s ∷ spans) (g ∷ forms) zero h = h.0
within-at (s ∷ spans) (g ∷ forms) (suc j) h = within-at spans forms j h.1

within-push : (spans : List ℕ) (forms : List Form) (s : ℕ) (g : Form) → AreWithin spans forms → IsWithin s g → AreWithin (spans ++ s ∷ []) (forms ++ g ∷ [])
within-push [] [] s g h k = (k, tt)
within-push [] (f ∷ forms) s g h k = absurd h
within-push (r ∷ spans) [] s g h k = absurd h
within-push (r ∷ spans) (f ∷ forms) s g h k = (h.0, within-push spans forms s g h.1 k)

module _ (known : Known) where
  min-within : (g h : Form) (n : ℕ) → IsWithin n g → IsWithin n h → IsWithin n (min_form known g h)
  min-within Undecided h n p q = tt
  min-within Never h n p q = q
  min-within (Plus i c) Undecided n p q = tt
  min-within (Plus i c) Never n p q = p
  min-within (Plus i c) (Plus j d) n p q = chosen-within (compared known i c j d) (Plus i c) (Plus j d) n p q

  max-within : (g h : Form) (n : ℕ) → IsWithin n g → IsWithin n h → IsWithin n (max_form known g h)
  max-within Undecided h n p q = tt
  max-within Never Undecided n p q = tt
  max-within Never Never n p q = tt
  max-within Never (Plus j d) n p q = tt
  max-within (Plus i c) Undecided n p q = tt
  max-within (Plus i c) Never n p q = tt
  max-within (Plus i c) (Plus j d) n p q = chosen-within (compared known i c j d) (Plus j d) (Plus i c) n q p

  lt-within : (g h : Form) (n : ℕ) → IsWithin n g → IsWithin n (lt_form known g h)
  lt-within Undecided h n p = tt
  lt-within Never Undecided n p = tt
  lt-within Never Never n p = tt
  lt-within Never (Plus j d) n p = tt
  lt-within (Plus i c) Undecided n p = tt
  lt-within (Plus i c) Never n p = p
  lt-within (Plus i c) (Plus j d) n p = chosen-within (compared known j d i c) Never (Plus i c) n tt p

  inc-within : (g : Form) (n c : ℕ) → IsWithin n g → IsWithin (n + c) (inc_form g c)
  inc-within Never n c p = tt
  inc-within Undecided n c p = tt
  inc-within (Plus i b) n c p = omega (arith, p)

  module _ (spans : List ℕ) (forms : List Form) (lets : AreWithin spans forms) where
    form-within : (e : Formula) → IsWithin (span spans e) (form known forms e)
    form-within f.Never = tt
    form-within (f.Input i) = omega arith
    form-within (f.Named j) = within-at spans forms j lets
    form-within (f.Min a b) = min-within _ _ (span spans (f.Min a b)) (within-le _ (span spans a) _ (omega arith) (form-within a)) (within-le _ (span spans b) _ (omega arith) (form-within b))
    form-within (f.Max a b) = max-within _ _ (span spans (f.Max a b)) (within-le _ (span spans a) _ (omega arith) (form-within a)) (within-le _ (span spans b) _ (omega arith) (form-within b))
    form-within (f.Lt a b) = lt-within _ (form known forms b) (span spans (f.Lt a b)) (within-le _ (span spans a) _ (omega arith) (form-within a))
    form-within (f.Inc a c) = inc-within _ (span spans a) c (form-within a)

    pub form_has_room : (e : Formula) → span spans e ≤ 1000000 → FormHasRoom known forms e
    form_has_room f.Never h = tt
    form_has_room (f.Input i) h = tt
    form_has_room (f.Named j) h = tt
    form_has_room (f.Min a b) h = (form_has_room a (omega (arith, h)), form_has_room b (omega (arith, h)))
    form_has_room (f.Max a b) h = (form_has_room a (omega (arith, h)), form_has_room b (omega (arith, h)))
    form_has_room (f.Lt a b) h = (form_has_room a (omega (arith, h)), form_has_room b (omega (arith, h)))
    form_has_room (f.Inc a c) h = (form_has_room a (omega (arith, h)), within-le _ (span spans (f.Inc a c)) 1000000 h (form-within (f.Inc a c)))

  lets_within : (spans : List ℕ) (forms : List Form) → AreWithin spans forms → (es : List Equation) →
      AreWithin (fold (λ spans e. spans ++ span spans e.body ∷ []) spans es) (fold (λ forms e. forms ++ form known forms e.body ∷ []) forms es)
  lets_within spans forms h [] = h
  lets_within spans forms h (e ∷ es) =
      lets_within (spans ++ span spans e.body ∷ []) (forms ++ form known forms e.body ∷ []) (within-push spans forms _ _ h (form-within spans forms h e.body)) es

  -- the let at place i has room at the forms of the lets before it
  pub let_has_room : (lets : List Equation) (i : ℕ) (e : Equation) → i < length lets → e ≡ get_or lets i e → AreShort (let_spans lets) → FormHasRoom known (let_forms known (take i lets)) e.body
  let_has_room lets i e lt is short =
      let here : drop i lets ≡ e ∷ drop (suc i) lets = drop-cons lets i e lt ∙ ap (λ (d : Equation). d ∷ drop (suc i) lets) (sym is) in
      let split : lets ≡ take i lets ++ e ∷ drop (suc i) lets = sym (take-append-drop i lets) ∙ ap (λ (es : List Equation). take i lets ++ es) here in
      form_has_room (let_spans (take i lets)) (let_forms known (take i lets)) (lets_within [] [] tt (take i lets)) e.body
      (let_is_short (take i lets) (drop (suc i) lets) e (subst (λ (es : List Equation). AreShort (let_spans es)) split short))

  short-at : (spans : List ℕ) (outputs : List Equation) (k : ℕ) (e : Equation) → k < length outputs → e ≡ get_or outputs k e → AreShort (map (λ e. span spans e.body) outputs) → span spans e.body ≤ 1000000
  short-at spans [] k e lt is h = absurd (omega (arith, lt))
  short-at spans (d ∷ outputs) zero e lt is h = subst (λ (e : Equation). span spans e.body ≤ 1000000) (sym is) h.0
  short-at spans (d ∷ outputs) (suc k) e lt is h = short-at spans outputs k e (omega (arith, lt)) is h.1

  pub output_has_room : (n : Net) (k : ℕ) (e : Equation) → IsNetwork n → k < length n.outputs → e ≡ get_or n.outputs k e → FormHasRoom known (let_forms known n.lets) e.body
  output_has_room n k e rules lt is =
      form_has_room (let_spans n.lets) (let_forms known n.lets) (lets_within [] [] tt n.lets) e.body (short-at (let_spans n.lets) n.outputs k e lt is rules.short_outputs)

  at-map : (forms : List Form) (outputs : List Equation) (k : ℕ) (e : Equation) → k < length outputs → e ≡ get_or outputs k e → form_at (map (λ e. form known forms e.body) outputs) k ≡ form known forms e.body
  at-map forms [] k e lt is = absurd (omega (arith, lt))
  at-map forms (d ∷ outputs) zero e lt is = ap (λ (e : Equation). form known forms e.body) (sym is)
  at-map forms (d ∷ outputs) (suc k) e lt is = at-map forms outputs k e (omega (arith, lt)) is

  pub output_is : (n : Net) (k : ℕ) (e : Equation) → k < length n.outputs → e ≡ get_or n.outputs k e → output_form known n k ≡ form known (let_forms known n.lets) e.body
  output_is n k e lt is = at-map (let_forms known n.lets) n.outputs k e lt is
