-- Statements that break no rule stay sound with one more that breaks none.
use Rattle.std.proofs.Common.{◌≡◌, ℕ, zero, suc, ◌+◌, ◌<◌, ◌≤◌, Bool, true, false, ◌||◌, eqb, List, [], ◌∷◌, ◌++◌, length, drop, Some, None, refl, sym, ap, subst, ◌∙◌, arith, inl, inr}
use Rattle.std.specs.Prelude.{slice_get, slice_set, count_by}
use Rattle.std.proofs.lemmas.List.Sums.{sum_by-cons, sum_by-append}
use Rattle.circuit.specs.declared.bit.Target.{Target}
use Rattle.circuit.specs.declared.bit.Target.TheVariants as target
use Rattle.circuit.specs.Circuit.{Logic, Assignment, names_wire}
use Rattle.circuit.specs.Names.{in_name, out_name, is_port_name, is_own_name}
use Rattle.circuit.specs.Valid.{IsTarget, IsInRange}
use Rattle.verilog_text.specs.Judging.{SoFar, nothing_yet, Entry, Declared, Meaning, ClockOrReset, InputAt, OutputAt, WireAt, RegAt, found, bits_of, is_clock_or_reset, is_input_port, is_output_port, is_next, same_target, is_given, module_of, with_entry, with_wire, with_reg, with_output}
use Rattle.verilog_laws.specs.Sound.{HasPlace, IsRegister, IsAssign, IsSound}
use Rattle.verilog_laws.proofs.Places.{get_push, get_left, get_set, length_more}
use Rattle.verilog_laws.proofs.Looked.{entry, found_kept, found_new, found_split}
use Rattle.verilog_laws.proofs.Growing.{Grows, Extends, target_grows, in_range_grows, place_grows, named_grows, register_grows, assigns_grow, bits_left, bits_set}
use Rattle.verilog_laws.proofs.Ports.{count_in, count_out, input_name, output_name, input_no_output, output_no_input, clock_no_port, next_is}

-- ---- counts of ports to declare

counted : (test : List ℕ → Bool) (n : List ℕ) (ns : List (List ℕ)) → is_next n ns ≡ true → test n ≡ true → count_by test ns ≡ count_by test (drop 1 ns) + 1
counted test n ns h t = ap (count_by test) (next_is n ns h) ∙ count_in test n (drop 1 ns) t

uncounted : (test : List ℕ → Bool) (n : List ℕ) (ns : List (List ℕ)) → is_next n ns ≡ true → test n ≡ false → count_by test ns ≡ count_by test (drop 1 ns)
uncounted test n ns h t = ap (count_by test) (next_is n ns h) ∙ count_out test n (drop 1 ns) t

-- the places of the old names and of one more
places_more : (x y : SoFar) (n : List ℕ) (m : Meaning) → IsSound x → Extends x y → y.entries ≡ x.entries ++ entry n m ∷ [] → HasPlace y m →
    (t : List ℕ) (k : Meaning) → found t y.entries ≡ Some k → HasPlace y k
places_more x y n m s e p h t k f =
    elim (found_split x.entries n t m k (ap (λ (es : List Entry). found t es) (sym p) ∙ f)) [
      | inl a ↦ place_grows x y e k (s.places t k a)
      | inr b ↦ subst (HasPlace y) (sym b) h
    ]

-- ---- ports

abbrev pub clock_more : SoFar → List ℕ → SoFar
clock_more x n = with_entry n ClockOrReset (record x { to_declare = drop 1 x.to_declare })

abbrev pub input_more : SoFar → List ℕ → SoFar
input_more x n = with_entry n (InputAt (length x.inputs)) (record x { to_declare = drop 1 x.to_declare; inputs = x.inputs ++ drop 3 n ∷ [] })

module _ (x : SoFar) (n : List ℕ) (s : IsSound x) (fresh : found n x.entries ≡ None) where
  kept_entries : (m : Meaning) (t : List ℕ) (k : Meaning) → found t x.entries ≡ Some k → found t (x.entries ++ entry n m ∷ []) ≡ Some k
  kept_entries m t k f = found_kept x.entries (entry n m ∷ []) t k f

  pub sound_clock : is_next n x.to_declare ≡ true → is_clock_or_reset n ≡ true → IsSound (clock_more x n)
  sound_clock next clock =
      let y = clock_more x n in
      let no = clock_no_port n clock in
      let a = uncounted is_input_port n x.to_declare next no.0 in
      let b = uncounted is_output_port n x.to_declare next no.1 in
      let few_i = s.few_inputs in
      let few_o = s.few_outputs in
      let e : Extends x y = record {
        entries = kept_entries ClockOrReset;
        grows = record { inputs = omega arith; outputs = omega arith; wires = omega arith; regs = λ k b h. h };
        regs = omega arith;
      } in
      record {
        few_inputs = omega (arith, few_i, a);
        few_outputs = omega (arith, few_o, b);
        few_wires = s.few_wires;
        few_bits = s.few_bits;
        few_regs = s.few_regs;
        places = places_more x y n ClockOrReset s e refl tt;
        inputs = named_grows x y e in_name is_port_name InputAt x.inputs s.inputs;
        outputs = named_grows x y e out_name is_port_name OutputAt x.outputs s.outputs;
        wires = named_grows x y e (λ n. n) is_own_name WireAt x.wires s.wires;
        regs = λ k r g. register_grows x y e k r (s.regs k r g);
        assigns = assigns_grow x y e refl s.assigns;
      }

  pub sound_input : is_next n x.to_declare ≡ true → is_input_port n ≡ true → IsSound (input_more x n)
  sound_input next port =
      let y = input_more x n in
      let m = InputAt (length x.inputs) in
      let name = input_name n port in
      let a = counted is_input_port n x.to_declare next port in
      let b = uncounted is_output_port n x.to_declare next (input_no_output n port) in
      let l = length_more x.inputs (drop 3 n) in
      let few_i = s.few_inputs in
      let few_o = s.few_outputs in
      let e : Extends x y = record {
        entries = kept_entries m;
        grows = record { inputs = omega (arith, l); outputs = omega arith; wires = omega arith; regs = λ k b h. h };
        regs = omega arith;
      } in
      record {
        few_inputs = omega (arith, few_i, a, l);
        few_outputs = omega (arith, few_o, b);
        few_wires = s.few_wires;
        few_bits = s.few_bits;
        few_regs = s.few_regs;
        places = places_more x y n m s e refl (omega (arith, l));
        inputs = λ k t g. elim (get_push x.inputs (drop 3 n) k t g) [
          | inl o ↦ named_grows x y e in_name is_port_name InputAt x.inputs s.inputs k t o
          | inr o ↦ (ap is_port_name o.1 ∙ name.1, ap (λ (z : List ℕ). found (in_name z) y.entries) o.1 ∙ ap (λ (z : List ℕ). found z y.entries) name.0 ∙ found_new x.entries n m fresh ∙ ap (λ (i : ℕ). Some (InputAt i)) (sym o.0))
        ];
        outputs = named_grows x y e out_name is_port_name OutputAt x.outputs s.outputs;
        wires = named_grows x y e (λ n. n) is_own_name WireAt x.wires s.wires;
        regs = λ k r g. register_grows x y e k r (s.regs k r g);
        assigns = assigns_grow x y e refl s.assigns;
      }

  pub sound_output : is_next n x.to_declare ≡ true → is_output_port n ≡ true → IsSound (with_output n x)
  sound_output next port =
      let y = with_output n x in
      let m = OutputAt (length x.outputs) in
      let name = output_name n port in
      let a = counted is_output_port n x.to_declare next port in
      let b = uncounted is_input_port n x.to_declare next (output_no_input n port) in
      let l = length_more x.outputs (drop 4 n) in
      let few_i = s.few_inputs in
      let few_o = s.few_outputs in
      let e : Extends x y = record {
        entries = kept_entries m;
        grows = record { inputs = omega arith; outputs = omega (arith, l); wires = omega arith; regs = λ k b h. h };
        regs = omega arith;
      } in
      record {
        few_inputs = omega (arith, few_i, b);
        few_outputs = omega (arith, few_o, a, l);
        few_wires = s.few_wires;
        few_bits = s.few_bits;
        few_regs = s.few_regs;
        places = places_more x y n m s e refl (omega (arith, l));
        inputs = named_grows x y e in_name is_port_name InputAt x.inputs s.inputs;
        outputs = λ k t g. elim (get_push x.outputs (drop 4 n) k t g) [
          | inl o ↦ named_grows x y e out_name is_port_name OutputAt x.outputs s.outputs k t o
          | inr o ↦ (ap is_port_name o.1 ∙ name.1, ap (λ (z : List ℕ). found (out_name z) y.entries) o.1 ∙ ap (λ (z : List ℕ). found z y.entries) name.0 ∙ found_new x.entries n m fresh ∙ ap (λ (i : ℕ). Some (OutputAt i)) (sym o.0))
        ];
        wires = named_grows x y e (λ n. n) is_own_name WireAt x.wires s.wires;
        regs = λ k r g. register_grows x y e k r (s.regs k r g);
        assigns = assigns_grow x y e refl s.assigns;
      }

  -- ---- wires and registers

  pub sound_wire : is_own_name n ≡ true → length x.wires + 1 ≤ 65536 → IsSound (with_wire n x)
  sound_wire own few =
      let y = with_wire n x in
      let m = WireAt (length x.wires) in
      let l = length_more x.wires n in
      let e : Extends x y = record {
        entries = kept_entries m;
        grows = record { inputs = omega arith; outputs = omega arith; wires = omega (arith, l); regs = λ k b h. h };
        regs = omega arith;
      } in
      record {
        few_inputs = s.few_inputs;
        few_outputs = s.few_outputs;
        few_wires = omega (arith, l, few);
        few_bits = s.few_bits;
        few_regs = s.few_regs;
        places = places_more x y n m s e refl (omega (arith, l));
        inputs = named_grows x y e in_name is_port_name InputAt x.inputs s.inputs;
        outputs = named_grows x y e out_name is_port_name OutputAt x.outputs s.outputs;
        wires = λ k t g. elim (get_push x.wires n k t g) [
          | inl o ↦ named_grows x y e (λ n. n) is_own_name WireAt x.wires s.wires k t o
          | inr o ↦ (ap is_own_name o.1 ∙ own, ap (λ (z : List ℕ). found z y.entries) o.1 ∙ found_new x.entries n m fresh ∙ ap (λ (i : ℕ). Some (WireAt i)) (sym o.0))
        ];
        regs = λ k r g. register_grows x y e k r (s.regs k r g);
        assigns = assigns_grow x y e refl s.assigns;
      }

  pub sound_reg : (w : ℕ) → is_own_name n ≡ true → 1 ≤ w → bits_of x.regs + w ≤ 65536 → IsSound (with_reg n w x)
  sound_reg w own some few =
      let y = with_reg n w x in
      let d : Declared = record { name = n; width = w; next = None } in
      let m = RegAt (length x.regs) in
      let l = length_more x.regs d in
      let bits : bits_of (x.regs ++ d ∷ []) ≡ bits_of x.regs + w = let a = sum_by-append (λ (r : Declared). r.width) x.regs (d ∷ []) in let b = sum_by-cons (λ (r : Declared). r.width) d [] in omega (arith, a, b) in
      let few_r = s.few_regs in
      let e : Extends x y = record {
        entries = kept_entries m;
        grows = record { inputs = omega arith; outputs = omega arith; wires = omega arith; regs = bits_left x.regs (d ∷ []) };
        regs = omega (arith, l);
      } in
      record {
        few_inputs = s.few_inputs;
        few_outputs = s.few_outputs;
        few_wires = s.few_wires;
        few_bits = omega (arith, bits, few);
        few_regs = omega (arith, bits, few_r, l, some);
        places = places_more x y n m s e refl (omega (arith, l));
        inputs = named_grows x y e in_name is_port_name InputAt x.inputs s.inputs;
        outputs = named_grows x y e out_name is_port_name OutputAt x.outputs s.outputs;
        wires = named_grows x y e (λ n. n) is_own_name WireAt x.wires s.wires;
        regs = λ k r g. elim (get_push x.regs d k r g) [
          | inl o ↦ register_grows x y e k r (s.regs k r o)
          | inr o ↦ subst (λ (q : Declared). IsRegister y k q) (sym o.1) (subst (λ (i : ℕ). IsRegister y i d) (sym o.0) (record {
            own = own;
            named = found_new x.entries n m fresh;
            some_bit = some;
            few_bits = omega (arith, few);
            next = tt;
          }))
        ];
        assigns = assigns_grow x y e refl s.assigns;
      }

-- ---- the header, and nothing

pub sound_header : (ports : List (List ℕ)) → count_by is_input_port ports ≤ 64 → count_by is_output_port ports ≤ 64 → IsSound (record nothing_yet { to_declare = ports })
sound_header ports i o = record {
  few_inputs = omega (arith, i);
  few_outputs = omega (arith, o);
  few_wires = omega arith;
  few_bits = omega arith;
  few_regs = omega arith;
  places = λ n m e. absurd cc;
  inputs = λ k n e. absurd cc;
  outputs = λ k n e. absurd cc;
  wires = λ k n e. absurd cc;
  regs = λ k n e. absurd cc;
  assigns = λ k n e. absurd cc;
}

-- ---- assigns

same_refl : (t : Target) → same_target t t ≡ true
same_refl (target.Wire w) = grind arith
same_refl (target.Out o) = grind arith

eq_of : (a b : ℕ) → eqb a b ≡ true → a ≡ b
eq_of a b e = grind arith

same_eq : (t u : Target) → same_target t u ≡ true → t ≡ u
same_eq (target.Wire v) (target.Wire w) e = ap (λ (n : ℕ). target.Wire n) (eq_of v w e)
same_eq (target.Wire v) (target.Out p) e = absurd cc
same_eq (target.Out o) (target.Wire w) e = absurd cc
same_eq (target.Out o) (target.Out p) e = ap (λ (n : ℕ). target.Out n) (eq_of o p e)

pub given_from : (given : List Assignment) (k : ℕ) (a : Assignment) (t : Target) → slice_get given k ≡ Some a → a.target ≡ t → is_given given t ≡ true
given_from [] k a t e h = absurd cc
given_from (b ∷ given) zero a t e h =
    let s : b ≡ a = cc in
    ap (λ (q : Bool). q || is_given given t) (ap (λ (u : Target). same_target t u) (ap (λ (z : Assignment). z.target) s ∙ h) ∙ same_refl t)
given_from (b ∷ given) (suc k) a t e h = or_last (same_target t b.target) (given_from given k a t e h) where
  or_last : (p : Bool) → is_given given t ≡ true → (p || is_given given t) ≡ true
  or_last true h = refl
  or_last false h = h

pub given_at : (given : List Assignment) (t : Target) → is_given given t ≡ true → (k : ℕ) × (a : Assignment) × (slice_get given k ≡ Some a) × (a.target ≡ t)
given_at [] t h = absurd cc
given_at (b ∷ given) t h = first (same_target t b.target) (λ g. given_at given t g) refl h where
  first : (p : Bool) → (is_given given t ≡ true → (k : ℕ) × (a : Assignment) × (slice_get given k ≡ Some a) × (a.target ≡ t)) → same_target t b.target ≡ p → (p || is_given given t) ≡ true →
      (k : ℕ) × (a : Assignment) × (slice_get (b ∷ given) k ≡ Some a) × (a.target ≡ t)
  first true again e h = (zero, b, refl, sym (same_eq t b.target e))
  first false again e h = let r = again h in (suc r.0, r.1, r.2, r.3)

pub given_more : (given : List Assignment) (a : Assignment) (t : Target) → is_given (given ++ a ∷ []) t ≡ (is_given given t || same_target t a.target)
given_more [] a t = last (same_target t a.target) where
  last : (p : Bool) → (p || false) ≡ p
  last true = refl
  last false = refl
given_more (b ∷ given) a t = ap (λ (q : Bool). same_target t b.target || q) (given_more given a t) ∙ assoc (same_target t b.target) (is_given given t) (same_target t a.target) where
  assoc : (p q r : Bool) → (p || (q || r)) ≡ ((p || q) || r)
  assoc true q r = refl
  assoc false q r = refl

not_both : (b : Bool) → b ≡ true → b ≡ false → ⊥
not_both b h e = cc

abbrev pub assign_more : SoFar → Target → Logic → SoFar
assign_more x t bit = record x { assigns = x.assigns ++ record { target = t; bit = bit } ∷ [] }

pub sound_assign : (x : SoFar) (t : Target) (bit : Logic) → IsSound x → IsTarget (module_of x) t → IsInRange (module_of x) bit → is_given x.assigns t ≡ false →
    ((w : ℕ) → names_wire bit w ≡ true → is_given x.assigns (target.Wire w) ≡ true) → IsSound (assign_more x t bit)
sound_assign x t bit s aims range new before =
    let y = assign_more x t bit in
    let last : Assignment = record { target = t; bit = bit } in
    let g : Grows (module_of x) (module_of y) = record { inputs = omega arith; outputs = omega arith; wires = omega arith; regs = λ k b h. h } in
    let e : Extends x y = record { entries = λ n m h. h; grows = g; regs = omega arith } in
    let forth : (j : ℕ) (b : Assignment) → slice_get x.assigns j ≡ Some b → slice_get y.assigns j ≡ Some b = λ j b h. get_left x.assigns (last ∷ []) j b h in
    let old : (k : ℕ) (a : Assignment) → slice_get x.assigns k ≡ Some a → IsAssign y k a = λ k a h.
    let q = s.assigns k a h in
    record {
      has_target = target_grows (module_of x) (module_of y) g a.target q.has_target;
      in_range = in_range_grows (module_of x) (module_of y) g a.bit q.in_range;
      once = λ j b f same. elim (get_push x.assigns last j b f) [
        | inl o ↦ q.once j b o same
        | inr o ↦ absurd (not_both (is_given x.assigns t) (given_from x.assigns k a t h (same ∙ ap (λ (z : Assignment). z.target) o.1)) new)
      ];
      earlier = λ w n. let r = q.earlier w n in (r.0, r.1, r.2, forth r.0 r.1 r.3, r.4);
    } in
    let here : IsAssign y (length x.assigns) last = record {
      has_target = target_grows (module_of x) (module_of y) g t aims;
      in_range = in_range_grows (module_of x) (module_of y) g bit range;
      once = λ j b f same. elim (get_push x.assigns last j b f) [
        | inl o ↦ absurd (not_both (is_given x.assigns t) (given_from x.assigns j b t o (sym same)) new)
        | inr o ↦ sym o.0
      ];
      earlier = λ w n. let r = given_at x.assigns (target.Wire w) (before w n) in (r.0, r.1, inside x.assigns r.0 r.1 r.2, forth r.0 r.1 r.2, r.3);
    } in
    record {
      few_inputs = s.few_inputs;
      few_outputs = s.few_outputs;
      few_wires = s.few_wires;
      few_bits = s.few_bits;
      few_regs = s.few_regs;
      places = λ n m h. place_grows x y e m (s.places n m h);
      inputs = named_grows x y e in_name is_port_name InputAt x.inputs s.inputs;
      outputs = named_grows x y e out_name is_port_name OutputAt x.outputs s.outputs;
      wires = named_grows x y e (λ n. n) is_own_name WireAt x.wires s.wires;
      regs = λ k r h. register_grows x y e k r (s.regs k r h);
      assigns = λ k a h. elim (get_push x.assigns last k a h) [
        | inl o ↦ old k a o
        | inr o ↦ subst (λ (b : Assignment). IsAssign y k b) (sym o.1) (subst (λ (i : ℕ). IsAssign y i last) (sym o.0) here)
      ];
    } where
      inside : (given : List Assignment) (k : ℕ) (a : Assignment) → slice_get given k ≡ Some a → k < length given
      inside [] k a e = absurd cc
      inside (b ∷ given) zero a e = omega arith
      inside (b ∷ given) (suc k) a e = let h = inside given k a e in omega (arith, h)

-- ---- what a register takes

bits_kept : (rs : List Declared) (k : ℕ) (r q : Declared) → slice_get rs k ≡ Some r → q.width ≡ r.width → bits_of (slice_set rs k q) ≡ bits_of rs
bits_kept [] k r q e w = refl
bits_kept (p ∷ rs) zero r q e w =
    let s : p ≡ r = cc in
    let a = sum_by-cons (λ (r : Declared). r.width) p rs in
    let b = sum_by-cons (λ (r : Declared). r.width) q rs in
    let c : p.width ≡ r.width = ap (λ (z : Declared). z.width) s in
    omega (arith, a, b, c, w)
bits_kept (p ∷ rs) (suc k) r q e w =
    let a = sum_by-cons (λ (r : Declared). r.width) p rs in
    let b = sum_by-cons (λ (r : Declared). r.width) p (slice_set rs k q) in
    let c = bits_kept rs k r q e w in
    omega (arith, a, b, c)

length_kept : {X : Type 0} (xs : List X) (k : ℕ) (z : X) → length (slice_set xs k z) ≡ length xs
length_kept [] k z = refl
length_kept (x ∷ xs) zero z = refl
length_kept (x ∷ xs) (suc k) z = ap (λ (n : ℕ). suc n) (length_kept xs k z)

abbrev pub next_more : SoFar → ℕ → Declared → Logic → SoFar
next_more x k r bit = record x { regs = slice_set x.regs k (record r { next = Some bit }) }

pub bits_next : (x : SoFar) (k : ℕ) (r : Declared) (bit : Logic) → slice_get x.regs k ≡ Some r → bits_of (next_more x k r bit).regs ≡ bits_of x.regs
bits_next x k r bit e = bits_kept x.regs k r (record r { next = Some bit }) e refl

pub sound_next : (x : SoFar) (k : ℕ) (r : Declared) (bit : Logic) → IsSound x → slice_get x.regs k ≡ Some r → IsInRange (module_of x) bit → IsSound (next_more x k r bit)
sound_next x k r bit s at range =
    let y = next_more x k r bit in
    let q : Declared = record r { next = Some bit } in
    let g : Grows (module_of x) (module_of y) = record { inputs = omega arith; outputs = omega arith; wires = omega arith; regs = bits_set x.regs k r bit at } in
    let l = length_kept x.regs k q in
    let b = bits_next x k r bit at in
    let few_b = s.few_bits in
    let few_r = s.few_regs in
    let e : Extends x y = record { entries = λ n m h. h; grows = g; regs = omega (arith, l) } in
    let was = register_grows x y e k r (s.regs k r at) in
    record {
      few_inputs = s.few_inputs;
      few_outputs = s.few_outputs;
      few_wires = s.few_wires;
      few_bits = omega (arith, b, few_b);
      few_regs = omega (arith, b, few_r, l);
      places = λ n m h. place_grows x y e m (s.places n m h);
      inputs = named_grows x y e in_name is_port_name InputAt x.inputs s.inputs;
      outputs = named_grows x y e out_name is_port_name OutputAt x.outputs s.outputs;
      wires = named_grows x y e (λ n. n) is_own_name WireAt x.wires s.wires;
      regs = λ j p h. elim (get_set x.regs k q j p h) [
        | inl o ↦ subst (λ (z : Declared). IsRegister y j z) (sym o.1) (subst (λ (i : ℕ). IsRegister y i q) (sym o.0) (record {
          own = was.own;
          named = was.named;
          some_bit = was.some_bit;
          few_bits = was.few_bits;
          next = in_range_grows (module_of x) (module_of y) g bit range;
        }))
        | inr o ↦ register_grows x y e j p (s.regs j p o)
      ];
      assigns = assigns_grow x y e refl s.assigns;
    }
