-- The assigns, the always statements and the end of a printed module break no rule.
use Rattle.std.proofs.Common.{◌≡◌, ◌≢◌, ℕ, zero, suc, ◌+◌, ◌-◌, ◌≤◌, ◌<◌, Bool, true, false, not, cond, ◌&&◌, ◌||◌, List, [], ◌∷◌, ◌++◌, length, map, Option, Some, None, refl, sym, ap, subst, ◌∙◌, arith, append_assoc, eqb}
use Rattle.std.specs.Prelude.{decimal, slice_get, slice_set, nat_lt, bytes_eq, is_some}
use Rattle.std.specs.List.{list_all, AllByRecursion}
use Rattle.std.proofs.lemmas.Bool.{and_parts, and_from, or_from, or_left, or_right, eqb-true, false_from_ne_true}
use Rattle.std.proofs.lemmas.Bool.Decides.{nat_tests}
use Rattle.std.proofs.lemmas.List.{append-nil, length-map, map-append}
use Rattle.std.proofs.lemmas.Option.{slice_get_within}
use Rattle.std.proofs.lemmas.Slice.Eq.{bytes_eq-Decides}
use Rattle.circuit.specs.declared.bit.Target.{Target}
use Rattle.circuit.specs.declared.bit.Target.TheVariants as target
use Rattle.circuit.specs.Circuit.{Assignment, Register, Circuit, circuit, names_wire}
use Rattle.circuit.specs.Names.{out_name, is_port_name, is_own_name}
use Rattle.verilog_text.specs.Text.{name_text, target_text}
use Rattle.circuit.specs.Meaning.{upto}
use Rattle.circuit.specs.Valid.{IsTarget, IsOrdered, IsInRange}
use Rattle.verilog_text.specs.Grammar.{Form, End, Next, Whole, Shifted}
use Rattle.verilog_text.specs.Judging.{Meaning, RegAt, Declared, SoFar, found, resolved_next, target_of, with_assign, set_next, with_next, after, is_reg, knows, knows_next, is_given, are_given, is_assigned, reg_of, has_next, is_unfinished, same_target, fits_widths, expression_of, has_form, zero_bits, is_update, breaks_name, breaks_order, breaks_width, first_rule, register_of, module_of}
use Rattle.verilog_laws.proofs.Printed.{printed, printed_assign, printed_next, printed_always}
use Rattle.verilog_laws.proofs.PrintedNames.{some_at, is_register, IsPrintable, IsRegister, register_is}
use Rattle.verilog_laws.proofs.PrintedEntries.{entries_of, IsScope}
use Rattle.verilog_laws.proofs.PrintedStatements.{AllKeep}
use Rattle.verilog_laws.proofs.PrintedOrder.{actions}
use Rattle.verilog_laws.proofs.PrintedRules.{SameWidths, IsRight, right, eqb_self}
use Rattle.verilog_laws.proofs.PrintedDeclarations.{so_far, unset, keeps}

-- ---- places in two lists

get_front : {X : Type 0} (xs ys : List X) (i : ℕ) → i < length xs → slice_get (xs ++ ys) i ≡ slice_get xs i
get_front [] ys i l = absurd (omega (arith, l))
get_front (x ∷ xs) ys zero l = refl
get_front (x ∷ xs) ys (suc i) l = get_front xs ys i (omega (arith, l))

get_here : {X : Type 0} (xs : List X) (y : X) (ys : List X) → slice_get (xs ++ y ∷ ys) (length xs) ≡ Some y
get_here [] y ys = refl
get_here (x ∷ xs) y ys = get_here xs y ys

set_here : {X : Type 0} (xs : List X) (y : X) (ys : List X) (z : X) → slice_set (xs ++ y ∷ ys) (length xs) z ≡ xs ++ z ∷ ys
set_here [] y ys z = refl
set_here (x ∷ xs) y ys z = ap (λ zs. x ∷ zs) (set_here xs y ys z)

-- ---- which targets are given

target_self : (t : Target) → same_target t t ≡ true
target_self (target.Wire w) = eqb_self w
target_self (target.Out o) = eqb_self o

target_is : (t u : Target) → same_target t u ≡ true → t ≡ u
target_is (target.Wire v) (target.Wire w) h = ap (λ (n : ℕ). target.Wire n) (eqb-true v w h)
target_is (target.Wire v) (target.Out o) h = absurd cc
target_is (target.Out o) (target.Wire w) h = absurd cc
target_is (target.Out o) (target.Out p) h = ap (λ (n : ℕ). target.Out n) (eqb-true o p h)

none_given : (t : Target) (as_ : List Assignment) → ((j : ℕ) (b : Assignment) → slice_get as_ j ≡ Some b → t ≢ b.target) → is_given as_ t ≡ false
none_given t [] h = refl
none_given t (a ∷ as_) h =
    or_from (same_target t a.target) (is_given as_ t) (false_from_ne_true (same_target t a.target) (λ e. h zero a refl (target_is t a.target e))) (none_given t as_ (λ j b e. h (suc j) b e))

some_given : (as_ : List Assignment) (i : ℕ) (b : Assignment) → slice_get as_ i ≡ Some b → is_given as_ b.target ≡ true
some_given [] i b e = absurd cc
some_given (a ∷ as_) zero b e = let same : a ≡ b = cc in or_left (same_target b.target a.target) (is_given as_ b.target) (ap (λ (c : Assignment). same_target b.target c.target) same ∙ target_self b.target)
some_given (a ∷ as_) (suc i) b e = or_right (same_target b.target a.target) (is_given as_ b.target) (some_given as_ i b e)

all_upto : (p : ℕ → Bool) (k n : ℕ) → ((i : ℕ) → i < k + n → p i ≡ true) → list_all p (upto k n) ≡ true
all_upto p k zero h = refl
all_upto p k (suc n) h = and_from (p k) (list_all p (upto (suc k) n)) (h k (omega arith)) (all_upto p (suc k) n (λ i l. h i (omega (arith, l))))

-- ---- registers, of which the first are given

-- a register with what its always statement says
abbrev pub taken : Register → Declared
taken r = record { name = r.name; width = r.width; next = Some r.next }

some_unset : (gs : List Register) (k : ℕ) (g : Register) → slice_get gs k ≡ Some g → (d : Declared) × (slice_get (map unset gs) k ≡ Some d) × (d.width ≡ g.width)
some_unset [] k g e = absurd cc
some_unset (h ∷ gs) zero g e = let same : h ≡ g = cc in (unset h, refl, ap (λ (r : Register). r.width) same)
some_unset (h ∷ gs) (suc k) g e = some_unset gs k g e

some_taken : (done gs : List Register) (k : ℕ) (g : Register) → slice_get (done ++ gs) k ≡ Some g → (d : Declared) × (slice_get (map taken done ++ map unset gs) k ≡ Some d) × (d.width ≡ g.width)
some_taken [] gs k g e = some_unset gs k g e
some_taken (h ∷ done) gs zero g e = let same : h ≡ g = cc in (taken h, refl, ap (λ (r : Register). r.width) same)
some_taken (h ∷ done) gs (suc k) g e = some_taken done gs k g e

all_taken : (gs : List Register) → list_all (λ (r : Declared). is_some r.next) (map taken gs) ≡ true
all_taken [] = refl
all_taken (g ∷ gs) = all_taken gs

taken_is : (gs : List Register) → map register_of (map taken gs) ≡ gs
taken_is [] = refl
taken_is (g ∷ gs) = ap (λ (rs : List Register). g ∷ rs) (taken_is gs)

-- ---- statements

-- the first assigns and the first always statements
abbrev pub acting : Circuit → List Assignment → List Declared → SoFar
acting m as_ rs = so_far [] (entries_of m) m.inputs m.outputs m.wires rs as_

target_found : (m : Circuit) → IsPrintable m → IsScope m (entries_of m) → (t : Target) → IsTarget m t → target_of (found (target_text m t) (entries_of m)) ≡ Some t
target_found m p s (target.Wire w) h =
    let a = some_at is_own_name m.wires w p.wires h in
    subst (λ (o : Option (List ℕ)). target_of (found (name_text o) (entries_of m)) ≡ Some (target.Wire w)) (sym a.1) (ap target_of (s.wire w a.0 a.1))
target_found m p s (target.Out o) h =
    let a = some_at is_port_name m.outputs o p.outputs h in
    subst (λ (q : Option (List ℕ)). target_of (found (out_name (name_text q)) (entries_of m)) ≡ Some (target.Out o)) (sym a.1) (ap target_of (s.output o a.0 a.1))

module _ (m : Circuit) (p : IsPrintable m) (s : IsScope m (entries_of m)) (ord : IsOrdered m) where
  -- an assign that is after these
  assign_keeps : (done rest : List Assignment) (a : Assignment) (rs : List Declared) → m.assigns ≡ done ++ a ∷ rest → SameWidths m rs → IsInRange m a.bit
      → (first_rule (acting m done rs) (printed_assign m a) ≡ None) × (after (acting m done rs) (printed_assign m a) ≡ acting m (done ++ a ∷ []) rs)
  assign_keeps done rest a rs q wide range =
      let x = acting m done rs in
      let here : slice_get m.assigns (length done) ≡ Some a = ap (λ (as_ : List Assignment). slice_get as_ (length done)) q ∙ get_here done a rest in
      let in_all : (j : ℕ) → j < length done → slice_get m.assigns j ≡ slice_get done j = λ j l. ap (λ (as_ : List Assignment). slice_get as_ j) q ∙ get_front done (a ∷ rest) j l in
      let t = target_found m p s a.target (ord.targets (length done) a here) in
      let r = right m x p (record { scope = s; widths = wide }) a.bit range in
      let given : (v : ℕ) → names_wire a.bit v ≡ true → is_given done (target.Wire v) ≡ true = λ v n.
      let g = ord.earlier (length done) a here v n in
      subst (λ (u : Target). is_given done u ≡ true) g.4 (some_given done g.0 g.1 (sym (in_all g.0 g.2) ∙ g.3)) in
      let new : is_given done a.target ≡ false = none_given a.target done (λ j b e same.
      let l = slice_get_within done j b e in
      let place : length done ≡ j = ord.once (length done) j a b here (in_all j l ∙ e) same in
      absurd (omega (arith, l, place))) in
      let f = printed_assign m a in
      let names : breaks_name x f ≡ false =
      or_from (not (is_some (target_of (found (target_text m a.target) x.entries)))) (not (knows x.entries (printed m a.bit))) (ap (λ (o : Option Target). not (is_some o)) t) (ap not r.known) in
      let order : breaks_order x f ≡ false =
      or_from (not (are_given x (printed m a.bit))) (is_assigned x.assigns (target_of (found (target_text m a.target) x.entries))) (ap not (r.given given)) (ap (is_assigned done) t ∙ new) in
      (keeps x f names order (ap not r.fits) refl, λ i. with_assign (t i) (r.resolved i) x)

  assigns_keep : (done as_ : List Assignment) (rs : List Declared) (rest : List Form) (last : SoFar) → m.assigns ≡ done ++ as_ → SameWidths m rs → AllByRecursion (λ (a : Assignment). IsInRange m a.bit) as_
      → AllKeep (acting m m.assigns rs) rest last → AllKeep (acting m done rs) (map (printed_assign m) as_ ++ rest) last
  assigns_keep done [] rs rest last q wide h k = subst (λ (as_ : List Assignment). AllKeep (acting m as_ rs) rest last) (q ∙ append-nil done) k
  assigns_keep done (a ∷ as_) rs rest last q wide h k =
      let one = assign_keeps done as_ a rs q wide h.0 in
      let more : m.assigns ≡ (done ++ a ∷ []) ++ as_ = q ∙ sym (append_assoc done (a ∷ []) as_) in
      (one.0, subst (λ (y : SoFar). AllKeep y (map (printed_assign m) as_ ++ rest) last) (sym one.1) (assigns_keep (done ++ a ∷ []) as_ rs rest last more wide h.1 k))

  -- ---- always statements

  self : (n : List ℕ) → bytes_eq n n ≡ true
  self n = (bytes_eq-Decides n n).1 refl

  more_than_one : (n : ℕ) → 1 ≤ n → eqb n 1 ≡ false → nat_lt 1 n ≡ true
  more_than_one n l h = grind (arith, nat_tests)

  form_is : (g : Register) → IsRegister g → (b : Bool) → eqb g.width 1 ≡ b → has_form g.name g.width (cond b (Whole (printed m g.next)) (Shifted g.name (decimal (g.width - 2)) (printed m g.next))) ≡ true
  form_is g is_g true e = e
  form_is g is_g false e =
      and_from (nat_lt 1 g.width && bytes_eq g.name g.name) (bytes_eq (decimal (g.width - 2)) (decimal (g.width - 2))) (and_from (nat_lt 1 g.width) (bytes_eq g.name g.name) (more_than_one g.width is_g.some e) (self g.name)) (self (decimal (g.width - 2)))

  -- what the register takes is the printed expression, and where it names the register, that is known
  record TakesRight (x : SoFar) (g : Register) (f : Next) : Type 0 where
    known : knows_next x.entries f ≡ true
    resolved : resolved_next x.entries f ≡ g.next
    fits : fits_widths x (expression_of f) ≡ true

  takes_right : (x : SoFar) (g : Register) (r : ℕ) → found g.name x.entries ≡ Some (RegAt r) → IsRight x g.next (printed m g.next) → (b : Bool) → TakesRight x g (cond b (Whole (printed m g.next)) (Shifted g.name (decimal (g.width - 2)) (printed m g.next)))
  takes_right x g r f e true = record { known = e.known; resolved = e.resolved; fits = e.fits }
  takes_right x g r f e false = record { known = and_from (is_reg (found g.name x.entries)) (knows x.entries (printed m g.next)) (ap is_reg f) e.known; resolved = e.resolved; fits = e.fits }

  always_keeps : (done gs : List Register) (g : Register) → m.regs ≡ done ++ g ∷ gs → is_register g ≡ true → IsInRange m g.next
      → (first_rule (acting m m.assigns (map taken done ++ map unset (g ∷ gs))) (printed_always m g) ≡ None)
      × (after (acting m m.assigns (map taken done ++ map unset (g ∷ gs))) (printed_always m g) ≡ acting m m.assigns (map taken done ++ taken g ∷ map unset gs))
  always_keeps done gs g q h range =
      let rs = map taken done ++ map unset (g ∷ gs) in
      let x = acting m m.assigns rs in
      let is_g = register_is g h in
      let k = length (map taken done) in
      let size : k ≡ length done = length-map done taken in
      let here : slice_get m.regs k ≡ Some g = ap (λ (n : ℕ). slice_get m.regs n) size ∙ ap (λ (l : List Register). slice_get l (length done)) q ∙ get_here done g gs in
      let wide : SameWidths m rs = λ i r e. some_taken done (g ∷ gs) i r (ap (λ (l : List Register). slice_get l i) (sym q) ∙ e) in
      let f = s.reg k g here in
      let at : slice_get rs k ≡ Some (unset g) = get_here (map taken done) (unset g) (map unset gs) in
      let r = right m x p (record { scope = s; widths = wide }) g.next range in
      let t = takes_right x g k f r (eqb g.width 1) in
      let z = zero_bits g.width in
      let e = printed_next m g in
      let reg : is_reg (found g.name x.entries) ≡ true = ap is_reg f in
      let names : breaks_name x (printed_always m g) ≡ false =
      or_from (not (is_reg (found g.name x.entries)) || not (is_reg (found g.name x.entries))) (not (knows_next x.entries e))
      (or_from (not (is_reg (found g.name x.entries))) (not (is_reg (found g.name x.entries))) (ap not reg) (ap not reg)) (ap not t.known) in
      let order : breaks_order x (printed_always m g) ≡ false = ap (λ (v : Option Meaning). has_next (reg_of rs v)) f ∙ ap has_next at in
      let update : is_update (reg_of rs (found g.name x.entries)) z g.name e ≡ true =
      ap (λ (v : Option Meaning). is_update (reg_of rs v) z g.name e) f ∙ ap (λ (d : Option Declared). is_update d z g.name e) at
      ∙ and_from (bytes_eq g.name g.name && bytes_eq z z) (has_form g.name g.width e) (and_from (bytes_eq g.name g.name) (bytes_eq z z) (self g.name) (self z)) (form_is g is_g (eqb g.width 1) refl) in
      let width : breaks_width x (printed_always m g) ≡ false =
      or_from (not (fits_widths x (expression_of e))) (not (is_update (reg_of rs (found g.name x.entries)) z g.name e)) (ap not t.fits) (ap not update) in (
        keeps x (printed_always m g) names order width refl,
        (λ i. with_next (f i) (t.resolved i) x) ∙ ap (λ (d : Option Declared). acting m m.assigns (set_next k d g.next rs)) at ∙ ap (acting m m.assigns) (set_here (map taken done) (unset g) (map unset gs) (taken g)),
      )

  always_keep : (done gs : List Register) (rest : List Form) (last : SoFar) → m.regs ≡ done ++ gs → list_all is_register gs ≡ true → AllByRecursion (λ (g : Register). IsInRange m g.next) gs
      → AllKeep (acting m m.assigns (map taken m.regs)) rest last → AllKeep (acting m m.assigns (map taken done ++ map unset gs)) (map (printed_always m) gs ++ rest) last
  always_keep done [] rest last q w h k =
      let whole : map taken m.regs ≡ map taken done ++ [] = ap (map taken) (q ∙ append-nil done) ∙ sym (append-nil (map taken done)) in
      subst (λ (rs : List Declared). AllKeep (acting m m.assigns rs) rest last) whole k
  always_keep done (g ∷ gs) rest last q w h k =
      let a = and_parts (is_register g) (list_all is_register gs) w in
      let one = always_keeps done gs g q a.0 h.0 in
      let more : m.regs ≡ (done ++ g ∷ []) ++ gs = q ∙ sym (append_assoc done (g ∷ []) gs) in
      let next : map taken (done ++ g ∷ []) ++ map unset gs ≡ map taken done ++ taken g ∷ map unset gs =
      ap (λ (rs : List Declared). rs ++ map unset gs) (map-append taken done (g ∷ [])) ∙ append_assoc (map taken done) (taken g ∷ []) (map unset gs) in
      let then = always_keep (done ++ g ∷ []) gs rest last more a.1 h.1 k in
      (one.0, subst (λ (y : SoFar). AllKeep y (map (printed_always m) gs ++ rest) last) (sym one.1) (subst (λ (rs : List Declared). AllKeep (acting m m.assigns rs) (map (printed_always m) gs ++ rest) last) next then))

  -- ---- the end

  all_given : (t : Target) → IsTarget m t → is_given m.assigns t ≡ true
  all_given t h = let g = ord.given t h in subst (λ (u : Target). is_given m.assigns u ≡ true) g.3 (some_given m.assigns g.0 g.1 g.2)

  end_keeps : first_rule (acting m m.assigns (map taken m.regs)) End ≡ None
  end_keeps =
      let x = acting m m.assigns (map taken m.regs) in
      let wires = all_upto (λ w. is_given m.assigns (target.Wire w)) 0 (length m.wires) (λ i l. all_given (target.Wire i) (omega (arith, l))) in
      let outs = all_upto (λ o. is_given m.assigns (target.Out o)) 0 (length m.outputs) (λ i l. all_given (target.Out i) (omega (arith, l))) in
      let two : (not (list_all (λ w. is_given m.assigns (target.Wire w)) (upto 0 (length m.wires))) || not (list_all (λ o. is_given m.assigns (target.Out o)) (upto 0 (length m.outputs)))) ≡ false =
      or_from _ _ (ap not wires) (ap not outs) in
      let finished : is_unfinished x ≡ false = or_from _ (not (list_all (λ r. is_some r.next) x.regs)) two (ap not (all_taken m.regs)) in
      keeps x End refl finished refl refl

  pub actions_keep : AllByRecursion (λ (a : Assignment). IsInRange m a.bit) m.assigns → AllByRecursion (λ (g : Register). IsInRange m g.next) m.regs
      → AllKeep (acting m [] (map unset m.regs)) (actions m) (acting m m.assigns (map taken m.regs))
  actions_keep ha hr =
      let last = acting m m.assigns (map taken m.regs) in
      let always = always_keep [] m.regs (End ∷ []) last refl p.regs hr (end_keeps, refl) in
      assigns_keep [] m.assigns (map unset m.regs) (map (printed_always m) m.regs ++ (End ∷ [])) last refl (λ k g e. some_unset m.regs k g e) ha always

pub is_module : (m : Circuit) → m ≡ module_of (acting m m.assigns (map taken m.regs))
is_module m = ap (λ (rs : List Register). circuit m.inputs m.outputs m.wires rs m.assigns) (sym (taken_is m.regs))
