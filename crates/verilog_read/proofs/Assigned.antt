-- What the reader's tests say of an assign or an always statement, and what the draft is with one more.
use Rattle.std.proofs.Common.{◌≡◌, ℕ, zero, suc, ◌<◌, Bool, true, false, not, ◌&&◌, ◌||◌, eqb, List, [], ◌∷◌, ◌++◌, length, map, get_or, set, Option, Some, None, refl, sym, ap, subst, ◌∙◌, arith, inl, inr}
use Rattle.std.specs.Prelude.{slice_get, is_some}
use Rattle.std.proofs.lemmas.List.{map-set, length-set, get_or-set_same, get_or-set_other}
use Rattle.std.proofs.lemmas.Bool.{and_parts, or_parts, cases_eq}
use Rattle.circuit.specs.declared.bit.Target.{Target}
use Rattle.circuit.specs.declared.bit.Target.TheVariants as target
use Rattle.verilog_text.specs.declared.rule.Rule.TheVariants as rule
use Rattle.circuit.specs.Circuit.{Logic, Register}
use Rattle.circuit.specs.Valid.{IsTarget}
use Rattle.verilog_text.specs.Grammar as g
use Rattle.verilog_text.specs.Grammar.{Expression, Next, Whole, Shifted}
use Rattle.verilog_text.specs.Judging as j
use Rattle.verilog_text.specs.Judging.{SoFar, Declared, Meaning, ClockOrReset, InputAt, OutputAt, WireAt, RegAt, found, bits_of, register_of, is_given, same_target, module_of, target_of, expression_of, first_rule, after}
use Rattle.verilog_read.specs.declared.draft.Draft as source
use Rattle.verilog_read.specs.declared.scope.Meaning as source_meaning
use Rattle.verilog_read.specs.declared.scope.Meaning.TheVariants as m
use Rattle.verilog_read.specs.Known as k
use Rattle.verilog_read.specs.Scope.{find}
use Rattle.verilog_read.specs.Known.{meaning, meaning_found, knows_by, given_by, fits_by, resolved_by, names_reg_by}
use Rattle.verilog_laws.specs.Sound.{HasPlace, IsSound}
use Rattle.verilog_read.specs.Draft.{AreFlags, IsDraft, is_assigned_by, assign_misnamed_by, assign_misordered_by, always_misnamed_by, regs_misnamed_by, is_update_reg, update_at, set_register}
use Rattle.verilog_read.proofs.Places.{get_within, get_map, get_none}
use Rattle.verilog_read.proofs.Meanings.{reg_is, reg_known, knows_is, given_is, fits_is, resolved_is}
use Rattle.verilog_read.proofs.Given.{given_more, assign_more, next_more, bits_next}
use Rattle.verilog_read.proofs.Kept.{Keeps, keeps, name_broken, order_broken, width_broken, none_broken}

pub not_false : (b : Bool) → not b ≡ false → b ≡ true
not_false true h = refl
not_false false h = absurd cc

-- the assign's flag is the definition's
assigned_is : (x : SoFar) (ws os : List Bool) → AreFlags ws (length x.wires) (λ w. is_given x.assigns (target.Wire w)) → AreFlags os (length x.outputs) (λ o. is_given x.assigns (target.Out o)) →
    (o : Option Meaning) → ((k : Meaning) → o ≡ Some k → HasPlace x k) → is_assigned_by ws os (target_of o) ≡ j.is_assigned x.assigns (target_of o)
assigned_is x ws os f e None p = refl
assigned_is x ws os f e (Some ClockOrReset) p = refl
assigned_is x ws os f e (Some (InputAt i)) p = refl
assigned_is x ws os f e (Some (OutputAt i)) p = e.each i (p (OutputAt i) refl)
assigned_is x ws os f e (Some (WireAt i)) p = f.each i (p (WireAt i) refl)
assigned_is x ws os f e (Some (RegAt i)) p = refl

module _ (d : source.Draft) (x : SoFar) (h : IsDraft d x) where
  place_of : (n : List ℕ) (k : Meaning) → found n x.entries ≡ Some k → HasPlace x k
  place_of n k e = h.sound.places n k e

  fits_are : (e : Expression) → fits_by (find d.scope) d.regs.items e ≡ j.fits_widths x e
  fits_are e = ap (λ (rs : List Register). fits_by (find d.scope) rs e) h.regs ∙ fits_is (find d.scope) x h.sound h.names e

  module _ (n : List ℕ) (e : Expression) where
    assign_name : assign_misnamed_by d n e ≡ j.breaks_name x (g.Assign n e)
    assign_name = λ i. not (is_some (target_of (h.names n i))) || not (knows_is (find d.scope) x.entries h.names e i)

    assign_order : assign_misordered_by d n e ≡ j.breaks_order x (g.Assign n e)
    assign_order =
        (λ i. not (given_is (find d.scope) x h.sound h.names d.given_wires.items h.given_wires e i) || is_assigned_by d.given_wires.items d.given_outputs.items (target_of (h.names n i)))
        ∙ ap (λ (b : Bool). not (j.are_given x e) || b) (assigned_is x d.given_wires.items d.given_outputs.items h.given_wires h.given_outputs (found n x.entries) (place_of n))

    pub assign_misnamed : (b : Bool) → b ≡ assign_misnamed_by d n e → b ≡ true → first_rule x (g.Assign n e) ≡ Some rule.Name
    assign_misnamed b p t = name_broken x (g.Assign n e) (sym assign_name ∙ sym p ∙ t)

    pub assign_misordered : (b c : Bool) → b ≡ assign_misnamed_by d n e → b ≡ false → c ≡ assign_misordered_by d n e → c ≡ true → first_rule x (g.Assign n e) ≡ Some rule.Order
    assign_misordered b c p t q u = order_broken x (g.Assign n e) (sym assign_name ∙ sym p ∙ t) (sym assign_order ∙ sym q ∙ u)

    pub assign_unfit : (b c f : Bool) → b ≡ assign_misnamed_by d n e → b ≡ false → c ≡ assign_misordered_by d n e → c ≡ false → f ≡ fits_by (find d.scope) d.regs.items e → f ≡ false →
        first_rule x (g.Assign n e) ≡ Some rule.Width
    assign_unfit b c f p t q u r v = width_broken x (g.Assign n e) (sym assign_name ∙ sym p ∙ t) (sym assign_order ∙ sym q ∙ u) (ap not (sym (fits_are e) ∙ sym r ∙ v))

    pub assign_stands : (b c f : Bool) → b ≡ assign_misnamed_by d n e → b ≡ false → c ≡ assign_misordered_by d n e → c ≡ false → f ≡ fits_by (find d.scope) d.regs.items e → f ≡ true →
        first_rule x (g.Assign n e) ≡ None
    assign_stands b c f p t q u r v = none_broken x (g.Assign n e) (sym assign_name ∙ sym p ∙ t) (sym assign_order ∙ sym q ∙ u) (ap not (sym (fits_are e) ∙ sym r ∙ v)) refl

-- ---- flags

or_same : (b : Bool) → (b || false) ≡ b
or_same true = refl
or_same false = refl

or_true : (b : Bool) → (b || true) ≡ true
or_true true = refl
or_true false = refl

eq_true : (n : ℕ) → eqb n n ≡ true
eq_true n = grind arith

eq_not : (a b : ℕ) → (a ≡ b → ⊥) → eqb a b ≡ false
eq_not a b h = either (eqb a b) refl where
  either : (t : Bool) → eqb a b ≡ t → t ≡ false
  either false e = refl
  either true e = absurd (h (eq_of e)) where
    eq_of : eqb a b ≡ true → a ≡ b
    eq_of e = grind arith

flags_set : (flags : List Bool) (n w : ℕ) (f f' : ℕ → Bool) → AreFlags flags n f → w < n → f' w ≡ true → ((k : ℕ) → (k ≡ w → ⊥) → f' k ≡ f k) → AreFlags (set flags w true) n f'
flags_set flags n w f f' h lt here there = record {
  len = length-set flags w true ∙ h.len;
  each = λ k le. elim (cases_eq k w) [
    | inl e ↦ ap (λ (i : ℕ). get_or (set flags w true) i false) e ∙ get_or-set_same flags w true false (let l = h.len in omega (arith, l, lt)) ∙ sym here ∙ ap f' (sym e)
    | inr ne ↦ get_or-set_other flags w k true false ne ∙ h.each k le ∙ sym (there k ne)
  ];
}

flags_other : (flags : List Bool) (n : ℕ) (f f' : ℕ → Bool) → AreFlags flags n f → ((k : ℕ) → f' k ≡ f k) → AreFlags flags n f'
flags_other flags n f f' h e = record { len = h.len; each = λ k lt. h.each k lt ∙ sym (e k) }

-- ---- a draft with one assign more

module _ (d new : source.Draft) (x : SoFar) (h : IsDraft d x) (n : List ℕ) (e : Expression) (more_sound : IsSound (after x (g.Assign n e))) (r : first_rule x (g.Assign n e) ≡ None) (bit : Logic) (is : bit ≡ resolved_by (find d.scope) e) where
  kept : Keeps x (g.Assign n e)
  kept = keeps x (g.Assign n e) r

  knows_e : j.knows x.entries e ≡ true
  knows_e = not_false (j.knows x.entries e) (or_parts (not (is_some (target_of (found n x.entries)))) (not (j.knows x.entries e)) kept.name).1

  fits_e : j.fits_widths x e ≡ true
  fits_e = not_false (j.fits_widths x e) kept.width

  bit_is : bit ≡ j.resolved x.entries e
  bit_is = is ∙ resolved_is (find d.scope) x h.sound h.names e knows_e fits_e

  module _ (t : Target) (at : target_of (found n x.entries) ≡ Some t) where
    after_is : after x (g.Assign n e) ≡ assign_more x t (j.resolved x.entries e)
    after_is = ap (λ (o : Option Target). j.with_assign o (j.resolved x.entries e) x) at

    aims : (o : Option Meaning) → found n x.entries ≡ o → target_of o ≡ Some t → IsTarget (module_of x) t
    aims None f q = absurd cc
    aims (Some ClockOrReset) f q = absurd cc
    aims (Some (InputAt i)) f q = absurd cc
    aims (Some (OutputAt i)) f q = let s : target.Out i ≡ t = cc in subst (IsTarget (module_of x)) s (h.sound.places n (OutputAt i) f)
    aims (Some (WireAt i)) f q = let s : target.Wire i ≡ t = cc in subst (IsTarget (module_of x)) s (h.sound.places n (WireAt i) f)
    aims (Some (RegAt i)) f q = absurd cc

    has_target : IsTarget (module_of x) t
    has_target = aims (found n x.entries) refl at

    assign_kept : new.to_declare.items ≡ d.to_declare.items → new.scope ≡ d.scope → new.inputs.items ≡ d.inputs.items → new.outputs.items ≡ d.outputs.items → new.wires.items ≡ d.wires.items → new.regs.items ≡ d.regs.items →
        new.assigns.items ≡ d.assigns.items ++ record { target = t; bit = bit } ∷ [] →
        AreFlags new.given_wires.items (length x.wires) (λ w. is_given (assign_more x t (j.resolved x.entries e)).assigns (target.Wire w)) →
        AreFlags new.given_outputs.items (length x.outputs) (λ o. is_given (assign_more x t (j.resolved x.entries e)).assigns (target.Out o)) →
        new.updated.items ≡ d.updated.items → new.bits ≡ d.bits → IsDraft new (after x (g.Assign n e))
    assign_kept td scope ins outs wires regs given gw go up bits =
        subst (IsDraft new) (sym after_is) (record {
          to_declare = ap (λ ps. map (λ p. p.now) ps) td ∙ h.to_declare;
          names = λ t. ap (λ s. meaning_found (find s t)) scope ∙ h.names t;
          inputs = ins ∙ h.inputs;
          outputs = outs ∙ h.outputs;
          wires = wires ∙ h.wires;
          regs = regs ∙ h.regs;
          assigns = given ∙ (λ i. h.assigns i ++ record { target = t; bit = bit_is i } ∷ []);
          given_wires = gw;
          given_outputs = go;
          updated = up ∙ h.updated;
          bits = bits ∙ h.bits;
          sound = subst IsSound after_is more_sound;
        })

  more : (t u : Target) → is_given (assign_more x t (j.resolved x.entries e)).assigns u ≡ (is_given x.assigns u || same_target u t)
  more t u = given_more x.assigns (record { target = t; bit = j.resolved x.entries e }) u

  at_found : (o : Option source_meaning.Meaning) (t : Target) → o ≡ find d.scope n → target_of (meaning_found o) ≡ Some t → target_of (found n x.entries) ≡ Some t
  at_found o t p q = ap target_of (sym (h.names n)) ∙ ap (λ (z : Option source_meaning.Meaning). target_of (meaning_found z)) (sym p) ∙ q

  pub wire_assigned : (w : ℕ) (o : Option source_meaning.Meaning) → o ≡ find d.scope n → target_of (meaning_found o) ≡ Some (target.Wire w) →
      new.to_declare.items ≡ d.to_declare.items → new.scope ≡ d.scope → new.inputs.items ≡ d.inputs.items → new.outputs.items ≡ d.outputs.items → new.wires.items ≡ d.wires.items → new.regs.items ≡ d.regs.items →
      new.assigns.items ≡ d.assigns.items ++ record { target = target.Wire w; bit = bit } ∷ [] → new.given_wires.items ≡ set d.given_wires.items w true → new.given_outputs.items ≡ d.given_outputs.items →
      new.updated.items ≡ d.updated.items → new.bits ≡ d.bits → IsDraft new (after x (g.Assign n e))
  wire_assigned w o p q td scope ins outs wires regs given gw go up bits =
      let t = target.Wire w in
      let at = at_found o t p q in
      assign_kept t at td scope ins outs wires regs given
      (subst (λ (fs : List Bool). AreFlags fs (length x.wires) (λ v. is_given (assign_more x t (j.resolved x.entries e)).assigns (target.Wire v))) (sym gw)
      (flags_set d.given_wires.items (length x.wires) w (λ v. is_given x.assigns (target.Wire v)) (λ v. is_given (assign_more x t (j.resolved x.entries e)).assigns (target.Wire v)) h.given_wires (has_target t at)
      (more t t ∙ ap (λ (b : Bool). is_given x.assigns t || b) (eq_true w) ∙ or_true (is_given x.assigns t))
      (λ v ne. more t (target.Wire v) ∙ ap (λ (b : Bool). is_given x.assigns (target.Wire v) || b) (eq_not v w ne) ∙ or_same (is_given x.assigns (target.Wire v)))))
      (subst (λ (fs : List Bool). AreFlags fs (length x.outputs) (λ v. is_given (assign_more x t (j.resolved x.entries e)).assigns (target.Out v))) (sym go)
      (flags_other d.given_outputs.items (length x.outputs) (λ v. is_given x.assigns (target.Out v)) (λ v. is_given (assign_more x t (j.resolved x.entries e)).assigns (target.Out v)) h.given_outputs
      (λ v. more t (target.Out v) ∙ or_same (is_given x.assigns (target.Out v)))))
      up bits

  pub output_assigned : (w : ℕ) (o : Option source_meaning.Meaning) → o ≡ find d.scope n → target_of (meaning_found o) ≡ Some (target.Out w) →
      new.to_declare.items ≡ d.to_declare.items → new.scope ≡ d.scope → new.inputs.items ≡ d.inputs.items → new.outputs.items ≡ d.outputs.items → new.wires.items ≡ d.wires.items → new.regs.items ≡ d.regs.items →
      new.assigns.items ≡ d.assigns.items ++ record { target = target.Out w; bit = bit } ∷ [] → new.given_wires.items ≡ d.given_wires.items → new.given_outputs.items ≡ set d.given_outputs.items w true →
      new.updated.items ≡ d.updated.items → new.bits ≡ d.bits → IsDraft new (after x (g.Assign n e))
  output_assigned w o p q td scope ins outs wires regs given gw go up bits =
      let t = target.Out w in
      let at = at_found o t p q in
      assign_kept t at td scope ins outs wires regs given
      (subst (λ (fs : List Bool). AreFlags fs (length x.wires) (λ v. is_given (assign_more x t (j.resolved x.entries e)).assigns (target.Wire v))) (sym gw)
      (flags_other d.given_wires.items (length x.wires) (λ v. is_given x.assigns (target.Wire v)) (λ v. is_given (assign_more x t (j.resolved x.entries e)).assigns (target.Wire v)) h.given_wires
      (λ v. more t (target.Wire v) ∙ or_same (is_given x.assigns (target.Wire v)))))
      (subst (λ (fs : List Bool). AreFlags fs (length x.outputs) (λ v. is_given (assign_more x t (j.resolved x.entries e)).assigns (target.Out v))) (sym go)
      (flags_set d.given_outputs.items (length x.outputs) w (λ v. is_given x.assigns (target.Out v)) (λ v. is_given (assign_more x t (j.resolved x.entries e)).assigns (target.Out v)) h.given_outputs (has_target t at)
      (more t t ∙ ap (λ (b : Bool). is_given x.assigns t || b) (eq_true w) ∙ or_true (is_given x.assigns t))
      (λ v ne. more t (target.Out v) ∙ ap (λ (b : Bool). is_given x.assigns (target.Out v) || b) (eq_not v w ne) ∙ or_same (is_given x.assigns (target.Out v)))))
      up bits

  -- a name that means neither is none that an assign may have
  pub not_assigned : (o : Option source_meaning.Meaning) → o ≡ find d.scope n → target_of (meaning_found o) ≡ None → ⊥
  not_assigned o p q =
      let none : target_of (found n x.entries) ≡ None = ap target_of (sym (h.names n)) ∙ ap (λ (z : Option source_meaning.Meaning). target_of (meaning_found z)) (sym p) ∙ q in
      let s = (or_parts (not (is_some (target_of (found n x.entries)))) (not (j.knows x.entries e)) kept.name).0 in
      let b : true ≡ false = sym (ap (λ (z : Option Target). not (is_some z)) none) ∙ s in cc

-- ---- always statements

next_name : (a p q : Bool) → ((a || not p) || not q) ≡ (a || not (p && q))
next_name true p q = refl
next_name false true q = refl
next_name false false q = refl

flag_at : (rs : List Declared) (i : ℕ) → get_or (map (λ r. is_some r.next) rs) i false ≡ j.has_next (slice_get rs i)
flag_at [] i = refl
flag_at (r ∷ rs) zero = refl
flag_at (r ∷ rs) (suc i) = flag_at rs i

updated_is : (rs : List Declared) (o : Option source_meaning.Meaning) → k.is_flagged_reg (map (λ r. is_some r.next) rs) o ≡ j.has_next (j.reg_of rs (meaning_found o))
updated_is rs None = refl
updated_is rs (Some m.ClockOrReset) = refl
updated_is rs (Some (m.Input i)) = refl
updated_is rs (Some (m.Output i)) = refl
updated_is rs (Some (m.Wire i)) = refl
updated_is rs (Some (m.Reg i)) = flag_at rs i

update_of : (o : Option Declared) (p : Option Register) (z s : List ℕ) (e : Next) → ((r : Declared) → o ≡ Some r → p ≡ Some (register_of r)) → (o ≡ None → p ≡ None) → is_update_reg p z s e ≡ j.is_update o z s e
update_of None p z s e some none = ap (λ (q : Option Register). is_update_reg q z s e) (none refl)
update_of (Some r) p z s e some none = ap (λ (q : Option Register). is_update_reg q z s e) (some r refl)

update_is : (rs : List Declared) (o : Option source_meaning.Meaning) (z s : List ℕ) (e : Next) → update_at (map register_of rs) o z s e ≡ j.is_update (j.reg_of rs (meaning_found o)) z s e
update_is rs None z s e = refl
update_is rs (Some m.ClockOrReset) z s e = refl
update_is rs (Some (m.Input i)) z s e = refl
update_is rs (Some (m.Output i)) z s e = refl
update_is rs (Some (m.Wire i)) z s e = refl
update_is rs (Some (m.Reg i)) z s e = update_of (slice_get rs i) (slice_get (map register_of rs) i) z s e (get_map register_of rs i) (get_none register_of rs i)

resolved_next_is : (es : List j.Entry) (e : Next) → j.resolved_next es e ≡ j.resolved es (expression_of e)
resolved_next_is es (Whole e) = refl
resolved_next_is es (Shifted r l e) = refl

pub not_true : (b : Bool) → not b ≡ true → b ≡ false
not_true false h = refl
not_true true h = sym h

pub misnamed_is : (d : source.Draft) (r s : List ℕ) (e : Next) (a b : Bool) → a ≡ regs_misnamed_by d r s e → b ≡ knows_by (find d.scope) (expression_of e) → (a || not b) ≡ always_misnamed_by d r s e
misnamed_is d r s e a b p q = λ i. p i || not (q i)

module _ (d : source.Draft) (x : SoFar) (h : IsDraft d x) (r z s : List ℕ) where
  found_same : (n : List ℕ) (o : Option source_meaning.Meaning) → o ≡ find d.scope n → meaning_found o ≡ found n x.entries
  found_same n o p = ap meaning_found p ∙ h.names n

  always_name : (e : Next) → always_misnamed_by d r s e ≡ j.breaks_name x (g.Always r z s e)
  always_name (Whole e) =
      let a = not (j.is_reg (found r x.entries)) || not (j.is_reg (found s x.entries)) in
      (λ i. ((not (reg_known (find d.scope) x.entries h.names r i) || not (reg_known (find d.scope) x.entries h.names s i)) || not true) || not (knows_is (find d.scope) x.entries h.names e i))
      ∙ next_name a true (j.knows x.entries e)
  always_name (Shifted t l e) =
      let a = not (j.is_reg (found r x.entries)) || not (j.is_reg (found s x.entries)) in
      (λ i. ((not (reg_known (find d.scope) x.entries h.names r i) || not (reg_known (find d.scope) x.entries h.names s i)) || not (reg_known (find d.scope) x.entries h.names t i)) || not (knows_is (find d.scope) x.entries h.names e i))
      ∙ next_name a (j.is_reg (found t x.entries)) (j.knows x.entries e)

  module _ (e : Next) (o : Option source_meaning.Meaning) (p : o ≡ find d.scope r) where
    always_order : k.is_flagged_reg d.updated.items o ≡ j.breaks_order x (g.Always r z s e)
    always_order =
        ap (λ (fs : List Bool). k.is_flagged_reg fs o) h.updated ∙ updated_is x.regs o ∙ ap (λ (q : Option Meaning). j.has_next (j.reg_of x.regs q)) (found_same r o p)

    always_width : (not (fits_by (find d.scope) d.regs.items (expression_of e)) || not (update_at d.regs.items o z s e)) ≡ j.breaks_width x (g.Always r z s e)
    always_width =
        (λ i. not (fits_are d x h (expression_of e) i) || not (update_at (h.regs i) o z s e))
        ∙ ap (λ (b : Bool). not (j.fits_widths x (expression_of e)) || not b) (update_is x.regs o z s e ∙ ap (λ (q : Option Meaning). j.is_update (j.reg_of x.regs q) z s e) (found_same r o p))

    pub always_misnamed : (b : Bool) → b ≡ always_misnamed_by d r s e → b ≡ true → first_rule x (g.Always r z s e) ≡ Some rule.Name
    always_misnamed b q t = name_broken x (g.Always r z s e) (sym (always_name e) ∙ sym q ∙ t)

    module _ (b : Bool) (q : b ≡ always_misnamed_by d r s e) (t : b ≡ false) where
      named : j.breaks_name x (g.Always r z s e) ≡ false
      named = sym (always_name e) ∙ sym q ∙ t

      pub always_updated : (c : Bool) → c ≡ k.is_flagged_reg d.updated.items o → c ≡ true → first_rule x (g.Always r z s e) ≡ Some rule.Order
      always_updated c u v = order_broken x (g.Always r z s e) named (sym always_order ∙ sym u ∙ v)

      module _ (c : Bool) (u : c ≡ k.is_flagged_reg d.updated.items o) (v : c ≡ false) where
        ordered : j.breaks_order x (g.Always r z s e) ≡ false
        ordered = sym always_order ∙ sym u ∙ v

        pub always_unfit : (f : Bool) → f ≡ fits_by (find d.scope) d.regs.items (expression_of e) → f ≡ false → first_rule x (g.Always r z s e) ≡ Some rule.Width
        always_unfit f i w = width_broken x (g.Always r z s e) named ordered (sym always_width ∙ ap (λ (a : Bool). not a || not (update_at d.regs.items o z s e)) (sym i ∙ w))

        pub always_wrong : (a : Bool) → a ≡ update_at d.regs.items o z s e → a ≡ false → first_rule x (g.Always r z s e) ≡ Some rule.Width
        always_wrong a i w = width_broken x (g.Always r z s e) named ordered (sym always_width ∙ ap (λ (b : Bool). not (fits_by (find d.scope) d.regs.items (expression_of e)) || not b) (sym i ∙ w)
            ∙ or_true (not (fits_by (find d.scope) d.regs.items (expression_of e))))

        pub always_stands : (f a : Bool) → f ≡ fits_by (find d.scope) d.regs.items (expression_of e) → f ≡ true → a ≡ update_at d.regs.items o z s e → a ≡ true → first_rule x (g.Always r z s e) ≡ None
        always_stands f a i w l n = none_broken x (g.Always r z s e) named ordered (sym always_width ∙ (λ y. not ((sym i ∙ w) y) || not ((sym l ∙ n) y))) refl

module _ (d new : source.Draft) (x : SoFar) (h : IsDraft d x) (r z s : List ℕ) (e : Next) (more_sound : IsSound (after x (g.Always r z s e))) (rule : first_rule x (g.Always r z s e) ≡ None) where
  always_keeps : Keeps x (g.Always r z s e)
  always_keeps = keeps x (g.Always r z s e) rule

  knows_next : j.knows x.entries (expression_of e) ≡ true
  knows_next = last e (not_false (j.knows_next x.entries e) (or_parts (not (j.is_reg (found r x.entries)) || not (j.is_reg (found s x.entries))) (not (j.knows_next x.entries e)) always_keeps.name).1) where
    last : (e : Next) → j.knows_next x.entries e ≡ true → j.knows x.entries (expression_of e) ≡ true
    last (Whole e) q = q
    last (Shifted t l e) q = (and_parts (j.is_reg (found t x.entries)) (j.knows x.entries e) q).1

  fits_next : j.fits_widths x (expression_of e) ≡ true
  fits_next = not_false (j.fits_widths x (expression_of e)) (or_parts (not (j.fits_widths x (expression_of e))) (not (j.is_update (j.reg_of x.regs (found r x.entries)) z s e)) always_keeps.width).0

  is_reg_r : j.is_reg (found r x.entries) ≡ true
  is_reg_r = not_false (j.is_reg (found r x.entries)) (or_parts (not (j.is_reg (found r x.entries))) (not (j.is_reg (found s x.entries)))
      (or_parts (not (j.is_reg (found r x.entries)) || not (j.is_reg (found s x.entries))) (not (j.knows_next x.entries e)) always_keeps.name).0).0

  -- a name that means no register is none that an always statement may have
  pub not_reg : (o : Option source_meaning.Meaning) → o ≡ find d.scope r → k.is_reg o ≡ false → ⊥
  not_reg o p q = let b : false ≡ true = sym q ∙ reg_is o ∙ ap j.is_reg (found_same d x h r z s r o p) ∙ is_reg_r in cc

  pub always_other : (o : Option source_meaning.Meaning) → o ≡ find d.scope r → k.is_reg o ≡ false → IsDraft d (after x (g.Always r z s e))
  always_other o p q = absurd (not_reg o p q)

  pub always_kept : (i : ℕ) (o : Option source_meaning.Meaning) (bit : Logic) → o ≡ find d.scope r → o ≡ Some (m.Reg i) → bit ≡ resolved_by (find d.scope) (expression_of e) →
      new.to_declare.items ≡ d.to_declare.items → new.scope ≡ d.scope → new.inputs.items ≡ d.inputs.items → new.outputs.items ≡ d.outputs.items → new.wires.items ≡ d.wires.items →
      new.regs.items ≡ set_register i (slice_get d.regs.items i) bit d.regs.items → new.assigns.items ≡ d.assigns.items → new.given_wires.items ≡ d.given_wires.items → new.given_outputs.items ≡ d.given_outputs.items →
      new.updated.items ≡ set d.updated.items i true → new.bits ≡ d.bits → IsDraft new (after x (g.Always r z s e))
  always_kept i o bit p q is td scope ins outs wires regs given gw go up bits =
      let at : found r x.entries ≡ Some (RegAt i) = sym (found_same d x h r z s r o p) ∙ ap meaning_found q in
      let w = get_within x.regs i (h.sound.places r (RegAt i) at) in
      let b = j.resolved x.entries (expression_of e) in
      let bit_is : bit ≡ b = is ∙ resolved_is (find d.scope) x h.sound h.names (expression_of e) knows_next fits_next in
      let y = next_more x i w.0 b in
      let same : after x (g.Always r z s e) ≡ y =
      (λ l. j.with_next (at l) (resolved_next_is x.entries e l) x) ∙ ap (λ (c : Option Declared). record x { regs = j.set_next i c b x.regs }) w.1 in
      let has : slice_get d.regs.items i ≡ Some (register_of w.0) = ap (λ (rs : List Register). slice_get rs i) h.regs ∙ get_map register_of x.regs i w.0 w.1 in
      subst (IsDraft new) (sym same) (record {
        to_declare = ap (λ ps. map (λ p. p.now) ps) td ∙ h.to_declare;
        names = λ t. ap (λ s. meaning_found (find s t)) scope ∙ h.names t;
        inputs = ins ∙ h.inputs;
        outputs = outs ∙ h.outputs;
        wires = wires ∙ h.wires;
        regs = regs ∙ (λ l. set_register i (has l) (bit_is l) (h.regs l)) ∙ sym (map-set register_of x.regs i (record w.0 { next = Some b }));
        assigns = given ∙ h.assigns;
        given_wires = subst (λ (fs : List Bool). AreFlags fs (length x.wires) (λ w. is_given x.assigns (target.Wire w))) (sym gw) h.given_wires;
        given_outputs = subst (λ (fs : List Bool). AreFlags fs (length x.outputs) (λ o. is_given x.assigns (target.Out o))) (sym go) h.given_outputs;
        updated = up ∙ ap (λ (fs : List Bool). set fs i true) h.updated ∙ sym (map-set (λ r. is_some r.next) x.regs i (record w.0 { next = Some b }));
        bits = bits ∙ h.bits ∙ sym (bits_next x i w.0 b w.1);
        sound = subst IsSound same more_sound;
      })
