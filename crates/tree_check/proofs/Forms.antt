-- What a form says of a time.
use Rattle.std.proofs.Common.{◌≡◌, ℕ, zero, suc, ◌+◌, ◌<◌, ◌≤◌, List, [], ◌∷◌, ◌++◌, length, map, refl, subst, sym, ap, ◌∙◌, arith, Bool, true, false, ltb, cond}
use Rattle.std.specs.Prelude.{ℤ, pos, ◌-ℤ◌, ◌≤ℤ◌, nat_eq, nat_le, fold, Option, Some, None, if◌then◌else◌, slice_index_or}
use Rattle.std.proofs.lemmas.Int.{ints}
use Rattle.std.proofs.lemmas.Bool.Decides.{nat_tests}
use Rattle.rl_time.specs.declared.time.Time.{Time}
use Rattle.rl_time.specs.declared.time.Time.TheVariants as time
use Rattle.rl_time.specs.Time.{time_min, time_max, time_lt, time_inc}
use Rattle.net_model.specs.Formula as f
use Rattle.net_model.specs.Formula.{Formula, Equation, Net}
use Rattle.net_model.specs.Value.{time_at, value}
use Rattle.spike_eval.specs.Causal.{numbers}
use Rattle.spike_eval.specs.Outputs.{output_function}
use Rattle.tree_check.specs.declared.form.Form.{Form}
use Rattle.tree_check.specs.declared.form.Form.TheVariants.{Never, Plus, Undecided}
use Rattle.tree_check.specs.Forms.{Known, compared, chosen, min_form, max_form, lt_form, inc_form, form_at, form, output_form, AreEqualForms}
use Rattle.tree_check.proofs.Chains.{equal}

-- the numbers as integers
abbrev pub whole : List ℕ → ℕ → ℤ
whole ns i = pos (slice_index_or ns i 0)

-- what is known is so, of inputs that there are
abbrev pub IsSound : List ℕ → Known → Type 0
IsSound ns known = (i j : ℕ) (w : ℤ) → known i j w ≡ true → (i < length ns) × (j < length ns) × ((whole ns i -ℤ whole ns j) ≤ℤ w)

abbrev pub Holds : List Time → Form → Time → Type 0
Holds x Never t = t ≡ time.Never
Holds x (Plus i c) t = t ≡ time_inc (time_at x i) c
Holds x Undecided t = Unit {0}

-- a is at most b
abbrev Yes : Time → Time → Type 0
Yes (time.At a) (time.At b) = a ≤ b
Yes t time.Never = Unit {0}
Yes time.Never (time.At b) = ⊥

-- a is greater than b, or never
abbrev No : Time → Time → Type 0
No (time.At a) (time.At b) = b < a
No time.Never t = Unit {0}
No (time.At a) time.Never = ⊥

abbrev Answers : Option Bool → Time → Time → Type 0
Answers (Some true) a b = Yes a b
Answers (Some false) a b = No a b
Answers None a b = Unit {0}

pub number_at : (ns : List ℕ) (i : ℕ) → i < length ns → time_at (numbers ns) i ≡ time.At (slice_index_or ns i 0)
number_at [] i h = absurd (omega (arith, h))
number_at (n ∷ ns) zero h = refl
number_at (n ∷ ns) (suc i) h = number_at ns i (omega (arith, h))

same_input : (t : Time) (c d : ℕ) (b : Bool) → nat_le c d ≡ b → Answers (Some b) (time_inc t c) (time_inc t d)
same_input (time.At a) c d true h = let e : c ≤ d = grind (arith, nat_tests) in omega (arith, e)
same_input (time.At a) c d false h = let e : d < c = grind (arith, nat_tests) in omega (arith, e)
same_input time.Never c d true h = tt
same_input time.Never c d false h = tt

yes_numbers : (ns : List ℕ) (i j c d : ℕ) → i < length ns → j < length ns → (whole ns i -ℤ whole ns j) ≤ℤ (pos d -ℤ pos c) → Yes (time_inc (time_at (numbers ns) i) c) (time_inc (time_at (numbers ns) j) d)
yes_numbers ns i j c d hi hj le = rw (number_at ns i hi, number_at ns j hj) (omega (arith, ints, le))

no_numbers : (ns : List ℕ) (i j c d : ℕ) → i < length ns → j < length ns → (whole ns j -ℤ whole ns i) ≤ℤ ((pos c -ℤ pos d) -ℤ pos 1) → No (time_inc (time_at (numbers ns) i) c) (time_inc (time_at (numbers ns) j) d)
no_numbers ns i j c d hi hj le = rw (number_at ns i hi, number_at ns j hj) (omega (arith, ints, le))

module _ (ns : List ℕ) (known : Known) (sound : IsSound ns known) where
  answered : (i c j d : ℕ) → Answers (compared known i c j d) (time_inc (time_at (numbers ns) i) c) (time_inc (time_at (numbers ns) j) d)
  answered i c j d = go (nat_eq i j) refl (known i j (pos d -ℤ pos c)) refl (known j i ((pos c -ℤ pos d) -ℤ pos 1)) refl
    where
      go : (p : Bool) → nat_eq i j ≡ p → (q : Bool) → known i j (pos d -ℤ pos c) ≡ q → (r : Bool) → known j i ((pos c -ℤ pos d) -ℤ pos 1) ≡ r →
          Answers (if p then Some (nat_le c d) else (if q then Some true else (if r then Some false else None))) (time_inc (time_at (numbers ns) i) c) (time_inc (time_at (numbers ns) j) d)
      go true e q eq r er = subst (λ (k : ℕ). Answers (Some (nat_le c d)) (time_inc (time_at (numbers ns) i) c) (time_inc (time_at (numbers ns) k) d)) (equal i j e) (same_input (time_at (numbers ns) i) c d (nat_le c d) refl)
      go false e true eq r er = let s = sound i j _ eq in yes_numbers ns i j c d s.0 s.1 s.2
      go false e false eq true er = let s = sound j i _ er in no_numbers ns i j c d s.1 s.0 s.2
      go false e false eq false er = tt

  min_chosen : (o : Option Bool) (s t : Time) (g h : Form) → Answers o s t → Holds (numbers ns) g s → Holds (numbers ns) h t → Holds (numbers ns) (chosen o g h) (time_min s t)
  min_chosen (Some true) s t g h a p q = subst (λ (u : Time). Holds (numbers ns) g u) (min-yes s t a) p
    where
      min-yes : (s t : Time) → Yes s t → s ≡ time_min s t
      min-yes (time.At a) (time.At b) h = ap (λ (n : ℕ). time.At n) (omega (arith, h))
      min-yes (time.At a) time.Never h = refl
      min-yes time.Never time.Never h = refl
      min-yes time.Never (time.At b) h = absurd h
  min_chosen (Some false) s t g h a p q = subst (λ (u : Time). Holds (numbers ns) h u) (min-no s t a) q
    where
      min-no : (s t : Time) → No s t → t ≡ time_min s t
      min-no (time.At a) (time.At b) h = ap (λ (n : ℕ). time.At n) (omega (arith, h))
      min-no (time.At a) time.Never h = absurd h
      min-no time.Never t h = refl
  min_chosen None s t g h a p q = tt

  max_chosen : (o : Option Bool) (s t : Time) (g h : Form) → Answers o s t → Holds (numbers ns) g s → Holds (numbers ns) h t → Holds (numbers ns) (chosen o h g) (time_max s t)
  max_chosen (Some true) s t g h a p q = subst (λ (u : Time). Holds (numbers ns) h u) (max-yes s t a) q
    where
      max-yes : (s t : Time) → Yes s t → t ≡ time_max s t
      max-yes (time.At a) (time.At b) h = ap (λ (n : ℕ). time.At n) (omega (arith, h))
      max-yes (time.At a) time.Never h = refl
      max-yes time.Never time.Never h = refl
      max-yes time.Never (time.At b) h = absurd h
  max_chosen (Some false) s t g h a p q = subst (λ (u : Time). Holds (numbers ns) g u) (max-no s t a) p
    where
      max-no : (s t : Time) → No s t → s ≡ time_max s t
      max-no (time.At a) (time.At b) h = ap (λ (n : ℕ). time.At n) (omega (arith, h))
      max-no (time.At a) time.Never h = absurd h
      max-no time.Never t h = refl
  max_chosen None s t g h a p q = tt

  -- here the second time is compared with the first
  lt_chosen : (o : Option Bool) (s t : Time) (g : Form) → Answers o t s → Holds (numbers ns) g s → Holds (numbers ns) (chosen o Never g) (time_lt s t)
  lt_chosen (Some true) s t g a p = lt-yes s t a
    where
      lt-yes : (s t : Time) → Yes t s → time_lt s t ≡ time.Never
      lt-yes (time.At a) (time.At b) h = let e : ltb a b ≡ false = grind (arith, nat_tests) in ap (λ (c : Bool). cond c (time.At a) time.Never) e
      lt-yes (time.At a) time.Never h = absurd h
      lt-yes time.Never t h = refl
  lt_chosen (Some false) s t g a p = subst (λ (u : Time). Holds (numbers ns) g u) (lt-no s t a) p
    where
      lt-no : (s t : Time) → No t s → s ≡ time_lt s t
      lt-no (time.At a) (time.At b) h = let e : ltb a b ≡ true = grind (arith, nat_tests) in ap (λ (c : Bool). cond c (time.At a) time.Never) (sym e)
      lt-no (time.At a) time.Never h = refl
      lt-no time.Never (time.At b) h = refl
      lt-no time.Never time.Never h = refl
  lt_chosen None s t g a p = tt

  pub min_holds : (g h : Form) (s t : Time) → Holds (numbers ns) g s → Holds (numbers ns) h t → Holds (numbers ns) (min_form known g h) (time_min s t)
  min_holds Undecided h s t p q = tt
  min_holds Never h s t p q = subst (λ (u : Time). Holds (numbers ns) h (time_min u t)) (sym p) q
  min_holds (Plus i c) Undecided s t p q = tt
  min_holds (Plus i c) Never s t p q = ap (λ (u : Time). time_min s u) q ∙ (never_last s ∙ p)
    where
      never_last : (s : Time) → time_min s time.Never ≡ s
      never_last (time.At a) = refl
      never_last time.Never = refl
  min_holds (Plus i c) (Plus j d) s t p q =
      min_chosen (compared known i c j d) s t (Plus i c) (Plus j d) (rw (p, q) (answered i c j d)) p q

  pub max_holds : (g h : Form) (s t : Time) → Holds (numbers ns) g s → Holds (numbers ns) h t → Holds (numbers ns) (max_form known g h) (time_max s t)
  max_holds Undecided h s t p q = tt
  max_holds Never Undecided s t p q = tt
  max_holds Never Never s t p q = ap (λ (u : Time). time_max u t) p
  max_holds Never (Plus j d) s t p q = ap (λ (u : Time). time_max u t) p
  max_holds (Plus i c) Undecided s t p q = tt
  max_holds (Plus i c) Never s t p q = ap (λ (u : Time). time_max s u) q ∙ never_last s
    where
      never_last : (s : Time) → time_max s time.Never ≡ time.Never
      never_last (time.At a) = refl
      never_last time.Never = refl
  max_holds (Plus i c) (Plus j d) s t p q =
      max_chosen (compared known i c j d) s t (Plus i c) (Plus j d) (rw (p, q) (answered i c j d)) p q

  pub lt_holds : (g h : Form) (s t : Time) → Holds (numbers ns) g s → Holds (numbers ns) h t → Holds (numbers ns) (lt_form known g h) (time_lt s t)
  lt_holds Undecided h s t p q = tt
  lt_holds Never Undecided s t p q = tt
  lt_holds Never Never s t p q = ap (λ (u : Time). time_lt u t) p
  lt_holds Never (Plus j d) s t p q = ap (λ (u : Time). time_lt u t) p
  lt_holds (Plus i c) Undecided s t p q = tt
  lt_holds (Plus i c) Never s t p q = ap (λ (u : Time). time_lt s u) q ∙ (never_last s ∙ p)
    where
      never_last : (s : Time) → time_lt s time.Never ≡ s
      never_last (time.At a) = refl
      never_last time.Never = refl
  lt_holds (Plus i c) (Plus j d) s t p q =
      lt_chosen (compared known j d i c) s t (Plus i c) (rw (p, q) (answered j d i c)) p

  pub inc_holds : (g : Form) (s : Time) (c : ℕ) → Holds (numbers ns) g s → Holds (numbers ns) (inc_form g c) (time_inc s c)
  inc_holds Undecided s c p = tt
  inc_holds Never s c p = ap (λ (u : Time). time_inc u c) p
  inc_holds (Plus i b) s c p = ap (λ (u : Time). time_inc u c) p ∙ twice (time_at (numbers ns) i)
    where
      twice : (t : Time) → time_inc (time_inc t b) c ≡ time_inc t (b + c)
      twice (time.At a) = ap (λ (n : ℕ). time.At n) (omega arith)
      twice time.Never = refl

  pub plus_zero : (t : Time) → t ≡ time_inc t 0
  plus_zero (time.At a) = ap (λ (n : ℕ). time.At n) (omega arith)
  plus_zero time.Never = refl

  -- each form holds of the time in its place
  abbrev AllHold : List Form → List Time → Type 0
  AllHold [] [] = Unit {0}
  AllHold (g ∷ forms) (t ∷ times) = Holds (numbers ns) g t × AllHold forms times
  AllHold [] (t ∷ times) = ⊥
  AllHold (g ∷ forms) [] = ⊥

  at-holds : (forms : List Form) (times : List Time) (k : ℕ) → AllHold forms times → Holds (numbers ns) (form_at forms k) (time_at times k)
  at-holds [] [] k h = refl
  at-holds [] (t ∷ times) k h = absurd h
  at-holds (g ∷ forms) [] k h = absurd h
  at-holds (g ∷ forms) (t ∷ times) zero h = h.0
  at-holds (g ∷ forms) (t ∷ times) (suc k) h = at-holds forms times k h.1

  hold-push : (forms : List Form) (times : List Time) (g : Form) (t : Time) → AllHold forms times → Holds (numbers ns) g t → AllHold (forms ++ g ∷ []) (times ++ t ∷ [])
  hold-push [] [] g t h k = (k, tt)
  hold-push [] (u ∷ times) g t h k = absurd h
  hold-push (f ∷ forms) [] g t h k = absurd h
  hold-push (f ∷ forms) (u ∷ times) g t h k = (h.0, hold-push forms times g t h.1 k)

  form_holds : (forms : List Form) (times : List Time) → AllHold forms times → (e : Formula) → Holds (numbers ns) (form known forms e) (value (numbers ns) times e)
  form_holds forms times h f.Never = refl
  form_holds forms times h (f.Input i) = plus_zero (time_at (numbers ns) i)
  form_holds forms times h (f.Named j) = at-holds forms times j h
  form_holds forms times h (f.Min a b) = min_holds _ _ _ _ (form_holds forms times h a) (form_holds forms times h b)
  form_holds forms times h (f.Max a b) = max_holds _ _ _ _ (form_holds forms times h a) (form_holds forms times h b)
  form_holds forms times h (f.Lt a b) = lt_holds _ _ _ _ (form_holds forms times h a) (form_holds forms times h b)
  form_holds forms times h (f.Inc a c) = inc_holds _ _ c (form_holds forms times h a)

  lets_hold : (forms : List Form) (times : List Time) → AllHold forms times → (es : List Equation) →
      AllHold (fold (λ forms e. forms ++ form known forms e.body ∷ []) forms es) (fold (λ times e. times ++ value (numbers ns) times e.body ∷ []) times es)
  lets_hold forms times h [] = h
  lets_hold forms times h (e ∷ es) = lets_hold (forms ++ form known forms e.body ∷ []) (times ++ value (numbers ns) times e.body ∷ []) (hold-push forms times _ _ h (form_holds forms times h e.body)) es

  outputs_hold : (forms : List Form) (times : List Time) → AllHold forms times → (es : List Equation) →
      AllHold (map (λ e. form known forms e.body) es) (map (λ e. value (numbers ns) times e.body) es)
  outputs_hold forms times h [] = tt
  outputs_hold forms times h (e ∷ es) = (form_holds forms times h e.body, outputs_hold forms times h es)

  pub output_holds : (n : Net) (k : ℕ) → Holds (numbers ns) (output_form known n k) (output_function n k (numbers ns))
  output_holds n k = at-holds _ _ k (outputs_hold _ _ (lets_hold [] [] tt n.lets) n.outputs)

  equal_inputs : (o p : Option Bool) (s t : Time) → Answers o s t → Answers p t s → o ≡ Some true → p ≡ Some true → s ≡ t
  equal_inputs o p s t h k e d = both s t (subst (λ (o : Option Bool). Answers o s t) e h) (subst (λ (p : Option Bool). Answers p t s) d k)
    where
      both : (s t : Time) → Yes s t → Yes t s → s ≡ t
      both (time.At a) (time.At b) h k = ap (λ (n : ℕ). time.At n) (omega (arith, h, k))
      both (time.At a) time.Never h k = absurd k
      both time.Never (time.At b) h k = absurd h
      both time.Never time.Never h k = refl

  -- where two forms are equal, the times are
  pub equal_times : (g h : Form) (s t : Time) → Holds (numbers ns) g s → Holds (numbers ns) h t → AreEqualForms known g h → s ≡ t
  equal_times Never Never s t p q e = p ∙ sym q
  equal_times (Plus i c) (Plus j d) s t p q e = p ∙ (equal_inputs (compared known i c j d) (compared known j d i c) _ _ (answered i c j d) (answered j d i c) e.0 e.1 ∙ sym q)
  equal_times Never (Plus j d) s t p q e = absurd e
  equal_times Never Undecided s t p q e = absurd e
  equal_times (Plus i c) Never s t p q e = absurd e
  equal_times (Plus i c) Undecided s t p q e = absurd e
  equal_times Undecided h s t p q e = absurd e
