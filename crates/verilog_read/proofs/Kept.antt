-- A draft with one more statement, which breaks no rule, is of the statements with this one.
use Rattle.std.proofs.Common.{◌≡◌, ℕ, zero, suc, ◌+◌, ◌<◌, ◌≤◌, Bool, true, false, not, cond, ◌||◌, ltb, List, [], ◌∷◌, ◌++◌, length, map, drop, get_or, Option, Some, None, refl, sym, ap, subst, ◌∙◌, arith, inl, inr}
use denote.Bor.{Bor}
use Rattle.std.specs.Prelude.{is_some}
use Rattle.std.specs.List.{list_any}
use Rattle.std.specs.Str.{bytes_eq}
use Rattle.std.proofs.lemmas.List.{drop-map, map-append, length-map}
use Rattle.std.proofs.lemmas.List.Sums.{sum_by-cons, sum_by-append}
use Rattle.std.proofs.lemmas.Bool.{or_parts, cases_lt, lt-ltb}
use Rattle.circuit.specs.declared.bit.Target.{Target}
use Rattle.circuit.specs.declared.bit.Target.TheVariants as target
use Rattle.verilog_text.specs.declared.rule.Rule.TheVariants as rule
use Rattle.circuit.specs.Circuit.{Zero, Register}
use Rattle.circuit.specs.Names.{is_own_name}
use Rattle.circuit.specs.Valid.{IsTarget}
use Rattle.verilog_text.specs.Grammar as g
use Rattle.verilog_text.specs.Grammar.{Form, Expression}
use Rattle.verilog_text.specs.Judging as j
use Rattle.verilog_text.specs.Judging.{SoFar, nothing_yet, Entry, Declared, Meaning, ClockOrReset, InputAt, OutputAt, WireAt, RegAt, found, bits_of, is_clock_or_reset, is_input_port, is_output_port, is_next, register_of, is_given, module_of, with_entry, with_wire, with_reg, with_output, width_of, number_of, first_of, first_rule, after}
use Rattle.verilog_read.specs.declared.draft.Draft as source
use Rattle.verilog_read.specs.declared.scope.Meaning as source_meaning
use Rattle.verilog_read.specs.declared.scope.Meaning.TheVariants as m
use Rattle.verilog_read.specs.Scope.{Names, find}
use Rattle.verilog_read.specs.Known.{meaning, meaning_found, AddsName, capped_width}
use Rattle.verilog_laws.specs.Sound.{IsSound}
use Rattle.verilog_read.specs.Draft.{AreFlags, IsDraft, is_misnamed_by, is_misplaced_by, input_misnamed_by, output_misnamed_by, own_misnamed_by}
use Rattle.verilog_read.proofs.Places.{none_of, length_more}
use Rattle.verilog_read.proofs.Looked.{entry, found_more}
use Rattle.verilog_read.proofs.Meanings.{some_is}
use Rattle.verilog_read.proofs.Ports.{any_map}
use Rattle.verilog_read.proofs.Given.{given_at}

-- ---- the rules, one by one

pub name_broken : (x : SoFar) (f : Form) → j.breaks_name x f ≡ true → first_rule x f ≡ Some rule.Name
name_broken x f h = ap (λ (b : Bool). first_of b (j.breaks_order x f) (j.breaks_width x f) (j.breaks_limit x f)) h

pub order_broken : (x : SoFar) (f : Form) → j.breaks_name x f ≡ false → j.breaks_order x f ≡ true → first_rule x f ≡ Some rule.Order
order_broken x f h k = λ i. first_of (h i) (k i) (j.breaks_width x f) (j.breaks_limit x f)

pub width_broken : (x : SoFar) (f : Form) → j.breaks_name x f ≡ false → j.breaks_order x f ≡ false → j.breaks_width x f ≡ true → first_rule x f ≡ Some rule.Width
width_broken x f h k l = λ i. first_of (h i) (k i) (l i) (j.breaks_limit x f)

pub limit_broken : (x : SoFar) (f : Form) → j.breaks_name x f ≡ false → j.breaks_order x f ≡ false → j.breaks_width x f ≡ false → j.breaks_limit x f ≡ true → first_rule x f ≡ Some rule.Limit
limit_broken x f h k l m = λ i. first_of (h i) (k i) (l i) (m i)

pub none_broken : (x : SoFar) (f : Form) → j.breaks_name x f ≡ false → j.breaks_order x f ≡ false → j.breaks_width x f ≡ false → j.breaks_limit x f ≡ false → first_rule x f ≡ None
none_broken x f h k l m = λ i. first_of (h i) (k i) (l i) (m i)

-- each rule is kept
pub record Keeps (x : SoFar) (f : Form) : Type 0 where
  pub name : j.breaks_name x f ≡ false
  pub order : j.breaks_order x f ≡ false
  pub width : j.breaks_width x f ≡ false
  pub limit : j.breaks_limit x f ≡ false

pub keeps : (x : SoFar) (f : Form) → first_rule x f ≡ None → Keeps x f
keeps x f h = either (j.breaks_name x f) (j.breaks_order x f) (j.breaks_width x f) (j.breaks_limit x f) refl refl refl refl h where
  either : (a b c d : Bool) → j.breaks_name x f ≡ a → j.breaks_order x f ≡ b → j.breaks_width x f ≡ c → j.breaks_limit x f ≡ d → first_of a b c d ≡ None → Keeps x f
  either false false false false n o w l h = record { name = n; order = o; width = w; limit = l }
  either true b c d n o w l h = absurd cc
  either false true c d n o w l h = absurd cc
  either false false true d n o w l h = absurd cc
  either false false false true n o w l h = absurd cc

-- ---- names

module _ (d : source.Draft) (x : SoFar) (h : IsDraft d x) (n : List ℕ) where
  misnamed_is : is_misnamed_by d n ≡ j.is_misnamed x n
  misnamed_is = ap (λ (b : Bool). ltb 40 (length n) || b) (some_is (find d.scope n) ∙ ap is_some (h.names n))

  misplaced_is : is_misplaced_by d n ≡ j.is_misplaced x n
  misplaced_is =
      let l : length d.regs.items ≡ length x.regs = ap length h.regs ∙ mapped x.regs in
      λ i. (not (is_next n (h.to_declare i)) || ltb 0 (length (h.wires i))) || ltb 0 (l i) where
        mapped : (rs : List Declared) → length (map register_of rs) ≡ length rs
        mapped [] = refl
        mapped (r ∷ rs) = ap (λ (n : ℕ). suc n) (mapped rs)

  pub input_misnamed_is : input_misnamed_by d n ≡ j.input_misnamed x n
  input_misnamed_is = λ i. (misnamed_is i || misplaced_is i) || not (is_clock_or_reset n || is_input_port n)

  pub output_misnamed_is : output_misnamed_by d n ≡ j.output_misnamed x n
  output_misnamed_is = λ i. (misnamed_is i || misplaced_is i) || not (is_output_port n)

  pub own_misnamed_is : own_misnamed_by d n ≡ j.own_misnamed x n
  own_misnamed_is = λ i. (misnamed_is i || not (is_own_name n)) || (any_map (bytes_eq n) d.to_declare.items ∙ ap (λ (ns : List (List ℕ)). list_any (bytes_eq n) ns) h.to_declare) i

-- a name that is not misnamed is not declared yet
fresh_is : (x : SoFar) (n : List ℕ) → j.is_misnamed x n ≡ false → found n x.entries ≡ None
fresh_is x n h = none_of (found n x.entries) (or_parts (ltb 40 (length n)) (is_some (found n x.entries)) h).1

not_false : (b : Bool) → not b ≡ false → b ≡ true
not_false true h = refl
not_false false h = absurd cc

-- a port that is not misplaced is the next
next_of : (x : SoFar) (n : List ℕ) → j.is_misplaced x n ≡ false → is_next n x.to_declare ≡ true
next_of x n h =
    let a = or_parts (not (is_next n x.to_declare) || ltb 0 (length x.wires)) (ltb 0 (length x.regs)) h in
    let b = or_parts (not (is_next n x.to_declare)) (ltb 0 (length x.wires)) a.0 in
    not_false (is_next n x.to_declare) b.0

record IsNextPort (x : SoFar) (n : List ℕ) (good : Bool) : Type 0 where
  fresh : found n x.entries ≡ None
  next : is_next n x.to_declare ≡ true
  good_name : good ≡ true

port_parts : (x : SoFar) (n : List ℕ) (good : Bool) → (j.is_misnamed x n || j.is_misplaced x n || not good) ≡ false → IsNextPort x n good
port_parts x n good h =
    let a = or_parts (j.is_misnamed x n || j.is_misplaced x n) (not good) h in
    let b = or_parts (j.is_misnamed x n) (j.is_misplaced x n) a.0 in
    record { fresh = fresh_is x n b.0; next = next_of x n b.1; good_name = not_false good a.1 }

own_parts : (x : SoFar) (n : List ℕ) → j.own_misnamed x n ≡ false → (found n x.entries ≡ None) × (is_own_name n ≡ true)
own_parts x n h =
    let a = or_parts (j.is_misnamed x n || not (is_own_name n)) (list_any (bytes_eq n) x.to_declare) h in
    let b = or_parts (j.is_misnamed x n) (not (is_own_name n)) a.0 in
    (fresh_is x n b.0, not_false (is_own_name n) b.1)

not_over : (limit n : ℕ) → ltb limit n ≡ false → n ≤ limit
not_over limit n h = elim (cases_lt limit n) [ inl lt ↦ absurd (let f : false ≡ true = sym h ∙ lt-ltb limit n lt in cc) | inr le ↦ le ]

some_width : (l : Option (List ℕ)) → 1 ≤ width_of l
some_width None = omega arith
some_width (Some digits) = omega arith

uncapped : (l : Option (List ℕ)) → width_of l ≤ 65536 → capped_width l ≡ width_of l
uncapped None h = refl
uncapped (Some digits) h = omega (arith, h)

-- ---- names of a scope with one more

names_more : (old new : Names) (es : List Entry) (n : List ℕ) (k : source_meaning.Meaning) →
    ((t : List ℕ) → meaning_found (find old t) ≡ found t es) → AddsName old new n k → found n es ≡ None →
    (t : List ℕ) → meaning_found (find new t) ≡ found t (es ++ entry n (meaning k) ∷ [])
names_more old new es n k h adds fresh t =
    ap meaning_found (adds t) ∙ cases (bytes_eq n t) ∙ ap (λ (o : Option Meaning). cond (bytes_eq n t) (Some (meaning k)) o) (h t) ∙ sym (found_more es n t (meaning k) fresh) where
      cases : (b : Bool) → meaning_found (cond b (Some k) (find old t)) ≡ cond b (Some (meaning k)) (meaning_found (find old t))
      cases true = refl
      cases false = refl

-- ---- flags

flags_more : (flags : List Bool) (n m : ℕ) (f : ℕ → Bool) → AreFlags flags n f → m ≡ n + 1 → f n ≡ false → AreFlags (flags ++ false ∷ []) m f
flags_more flags n m f h e last = record {
  len = let l = length_more flags false in let k = h.len in omega (arith, l, k, e);
  each = λ k lt. elim (cases_lt k n) [
    | inl low ↦ left flags k (let l = h.len in omega (arith, l, low)) ∙ h.each k low
    | inr high ↦ let s : k ≡ n = omega (arith, high, lt, e) in let t : k ≡ length flags = let l = h.len in omega (arith, l, s) in
        ap (λ (i : ℕ). get_or (flags ++ false ∷ []) i false) t ∙ right flags ∙ sym last ∙ ap f (sym s)
  ];
} where
  left : (flags : List Bool) (k : ℕ) → k < length flags → get_or (flags ++ false ∷ []) k false ≡ get_or flags k false
  left [] k lt = absurd (omega arith)
  left (b ∷ flags) zero lt = refl
  left (b ∷ flags) (suc k) lt = left flags k (omega arith)

  right : (flags : List Bool) → get_or (flags ++ false ∷ []) (length flags) false ≡ false
  right [] = refl
  right (b ∷ flags) = right flags

-- ---- a draft in parts

-- what a port's declaration leaves as it was
abbrev pub ports_now : List (Bor (List ℕ)) → List (List ℕ)
ports_now ps = map (λ p. p.now) ps

behind : (ps : List (Bor (List ℕ))) (ns : List (List ℕ)) → ports_now ps ≡ ns → ports_now (drop 1 ps) ≡ drop 1 ns
behind ps ns e = sym (drop-map (λ p. p.now) 1 ps) ∙ ap (drop 1) e

-- an assign gives no wire or output that isn't declared yet
no_given : (x : SoFar) (t : Target) → IsSound x → (IsTarget (module_of x) t → ⊥) → is_given x.assigns t ≡ false
no_given x t s none = either (is_given x.assigns t) refl where
  either : (b : Bool) → is_given x.assigns t ≡ b → b ≡ false
  either false e = refl
  either true e = absurd (let r = given_at x.assigns t e in
      none (subst (λ (t : Target). IsTarget (module_of x) t) r.3 (s.assigns r.0 r.1 r.2).has_target))

too_far : (n : ℕ) → n < n → ⊥
too_far n h = omega (arith, h)

-- ---- ports

-- with the clock or the reset declared, and with an input
abbrev clock_more : SoFar → List ℕ → SoFar
clock_more x n = with_entry n ClockOrReset (record x { to_declare = drop 1 x.to_declare })

abbrev input_more : SoFar → List ℕ → SoFar
input_more x n = with_entry n (InputAt (length x.inputs)) (record x { to_declare = drop 1 x.to_declare; inputs = x.inputs ++ drop 3 n ∷ [] })

module _ (d new : source.Draft) (x : SoFar) (n : List ℕ) (h : IsDraft d x) where
  pub clock_kept : IsSound (after x (g.Input n)) → first_rule x (g.Input n) ≡ None → is_clock_or_reset n ≡ true → AddsName d.scope new.scope n m.ClockOrReset →
      new.to_declare.items ≡ drop 1 d.to_declare.items → new.inputs.items ≡ d.inputs.items → new.outputs.items ≡ d.outputs.items → new.wires.items ≡ d.wires.items → new.regs.items ≡ d.regs.items →
      new.assigns.items ≡ d.assigns.items → new.given_wires.items ≡ d.given_wires.items → new.given_outputs.items ≡ d.given_outputs.items → new.updated.items ≡ d.updated.items → new.bits ≡ d.bits →
      IsDraft new (after x (g.Input n))
  clock_kept sound rule clock scope td ins outs wires regs given gw go up bits =
      let k = keeps x (g.Input n) rule in
      let p = port_parts x n (is_clock_or_reset n || is_input_port n) k.name in
      let same : after x (g.Input n) ≡ clock_more x n = ap (λ (b : Bool). cond b (clock_more x n) (input_more x n)) clock in
      subst (IsDraft new) (sym same) (record {
        to_declare = ap ports_now td ∙ behind d.to_declare.items x.to_declare h.to_declare;
        names = names_more d.scope new.scope x.entries n m.ClockOrReset h.names scope p.fresh;
        inputs = ins ∙ h.inputs;
        outputs = outs ∙ h.outputs;
        wires = wires ∙ h.wires;
        regs = regs ∙ h.regs;
        assigns = given ∙ h.assigns;
        given_wires = subst (λ (fs : List Bool). AreFlags fs (length x.wires) (λ w. is_given x.assigns (target.Wire w))) (sym gw) h.given_wires;
        given_outputs = subst (λ (fs : List Bool). AreFlags fs (length x.outputs) (λ o. is_given x.assigns (target.Out o))) (sym go) h.given_outputs;
        updated = up ∙ h.updated;
        bits = bits ∙ h.bits;
        sound = subst IsSound same sound;
      })

  pub input_kept : (at : ℕ) (name : List ℕ) → IsSound (after x (g.Input n)) → first_rule x (g.Input n) ≡ None → is_clock_or_reset n ≡ false → at ≡ length d.inputs.items → name ≡ drop 3 n → AddsName d.scope new.scope n (m.Input at) →
      new.to_declare.items ≡ drop 1 d.to_declare.items → new.inputs.items ≡ d.inputs.items ++ name ∷ [] → new.outputs.items ≡ d.outputs.items → new.wires.items ≡ d.wires.items → new.regs.items ≡ d.regs.items →
      new.assigns.items ≡ d.assigns.items → new.given_wires.items ≡ d.given_wires.items → new.given_outputs.items ≡ d.given_outputs.items → new.updated.items ≡ d.updated.items → new.bits ≡ d.bits →
      IsDraft new (after x (g.Input n))
  input_kept at name sound rule clock place named scope td ins outs wires regs given gw go up bits =
      let k = keeps x (g.Input n) rule in
      let p = port_parts x n (is_clock_or_reset n || is_input_port n) k.name in
      let port : is_input_port n ≡ true = ap (λ (b : Bool). b || is_input_port n) (sym clock) ∙ p.good_name in
      let same : after x (g.Input n) ≡ input_more x n = ap (λ (b : Bool). cond b (clock_more x n) (input_more x n)) clock in
      let here : at ≡ length x.inputs = place ∙ ap length h.inputs in
      subst (IsDraft new) (sym same) (record {
        to_declare = ap ports_now td ∙ behind d.to_declare.items x.to_declare h.to_declare;
        names = subst (λ (i : ℕ). (t : List ℕ) → meaning_found (find new.scope t) ≡ found t (x.entries ++ entry n (InputAt i) ∷ [])) here (names_more d.scope new.scope x.entries n (m.Input at) h.names scope p.fresh);
        inputs = ins ∙ (λ i. h.inputs i ++ named i ∷ []);
        outputs = outs ∙ h.outputs;
        wires = wires ∙ h.wires;
        regs = regs ∙ h.regs;
        assigns = given ∙ h.assigns;
        given_wires = subst (λ (fs : List Bool). AreFlags fs (length x.wires) (λ w. is_given x.assigns (target.Wire w))) (sym gw) h.given_wires;
        given_outputs = subst (λ (fs : List Bool). AreFlags fs (length x.outputs) (λ o. is_given x.assigns (target.Out o))) (sym go) h.given_outputs;
        updated = up ∙ h.updated;
        bits = bits ∙ h.bits;
        sound = subst IsSound same sound;
      })

  pub output_kept : (at : ℕ) (name : List ℕ) → IsSound (after x (g.Output n)) → first_rule x (g.Output n) ≡ None → at ≡ length d.outputs.items → name ≡ drop 4 n → AddsName d.scope new.scope n (m.Output at) →
      new.to_declare.items ≡ drop 1 d.to_declare.items → new.inputs.items ≡ d.inputs.items → new.outputs.items ≡ d.outputs.items ++ name ∷ [] → new.wires.items ≡ d.wires.items → new.regs.items ≡ d.regs.items →
      new.assigns.items ≡ d.assigns.items → new.given_wires.items ≡ d.given_wires.items → new.given_outputs.items ≡ d.given_outputs.items ++ false ∷ [] → new.updated.items ≡ d.updated.items → new.bits ≡ d.bits →
      IsDraft new (after x (g.Output n))
  output_kept at name sound rule place named scope td ins outs wires regs given gw go up bits =
      let k = keeps x (g.Output n) rule in
      let p = port_parts x n (is_output_port n) k.name in
      let here : at ≡ length x.outputs = place ∙ ap length h.outputs in
      record {
        to_declare = ap ports_now td ∙ behind d.to_declare.items x.to_declare h.to_declare;
        names = subst (λ (i : ℕ). (t : List ℕ) → meaning_found (find new.scope t) ≡ found t (x.entries ++ entry n (OutputAt i) ∷ [])) here (names_more d.scope new.scope x.entries n (m.Output at) h.names scope p.fresh);
        inputs = ins ∙ h.inputs;
        outputs = outs ∙ (λ i. h.outputs i ++ named i ∷ []);
        wires = wires ∙ h.wires;
        regs = regs ∙ h.regs;
        assigns = given ∙ h.assigns;
        given_wires = subst (λ (fs : List Bool). AreFlags fs (length x.wires) (λ w. is_given x.assigns (target.Wire w))) (sym gw) h.given_wires;
        given_outputs = subst (λ (fs : List Bool). AreFlags fs (length (x.outputs ++ drop 4 n ∷ [])) (λ o. is_given x.assigns (target.Out o))) (sym go)
            (flags_more d.given_outputs.items (length x.outputs) (length (x.outputs ++ drop 4 n ∷ [])) (λ o. is_given x.assigns (target.Out o)) h.given_outputs (length_more x.outputs (drop 4 n)) (no_given x (target.Out (length x.outputs)) h.sound (λ t. too_far (length x.outputs) t)));
        updated = up ∙ h.updated;
        bits = bits ∙ h.bits;
        sound = sound;
      }

  -- ---- wires and registers

  pub wire_kept : (at : ℕ) (name : List ℕ) → IsSound (after x (g.Wire n)) → first_rule x (g.Wire n) ≡ None → at ≡ length d.wires.items → name ≡ n → AddsName d.scope new.scope n (m.Wire at) →
      new.to_declare.items ≡ d.to_declare.items → new.inputs.items ≡ d.inputs.items → new.outputs.items ≡ d.outputs.items → new.wires.items ≡ d.wires.items ++ name ∷ [] → new.regs.items ≡ d.regs.items →
      new.assigns.items ≡ d.assigns.items → new.given_wires.items ≡ d.given_wires.items ++ false ∷ [] → new.given_outputs.items ≡ d.given_outputs.items → new.updated.items ≡ d.updated.items → new.bits ≡ d.bits →
      IsDraft new (after x (g.Wire n))
  wire_kept at name sound rule place named scope td ins outs wires regs given gw go up bits =
      let k = keeps x (g.Wire n) rule in
      let p = own_parts x n k.name in
      let here : at ≡ length x.wires = place ∙ ap length h.wires in
      record {
        to_declare = ap ports_now td ∙ h.to_declare;
        names = subst (λ (i : ℕ). (t : List ℕ) → meaning_found (find new.scope t) ≡ found t (x.entries ++ entry n (WireAt i) ∷ [])) here (names_more d.scope new.scope x.entries n (m.Wire at) h.names scope p.0);
        inputs = ins ∙ h.inputs;
        outputs = outs ∙ h.outputs;
        wires = wires ∙ (λ i. h.wires i ++ named i ∷ []);
        regs = regs ∙ h.regs;
        assigns = given ∙ h.assigns;
        given_wires = subst (λ (fs : List Bool). AreFlags fs (length (x.wires ++ n ∷ [])) (λ w. is_given x.assigns (target.Wire w))) (sym gw)
            (flags_more d.given_wires.items (length x.wires) (length (x.wires ++ n ∷ [])) (λ w. is_given x.assigns (target.Wire w)) h.given_wires (length_more x.wires n) (no_given x (target.Wire (length x.wires)) h.sound (λ t. too_far (length x.wires) t)));
        given_outputs = subst (λ (fs : List Bool). AreFlags fs (length x.outputs) (λ o. is_given x.assigns (target.Out o))) (sym go) h.given_outputs;
        updated = up ∙ h.updated;
        bits = bits ∙ h.bits;
        sound = sound;
      }

  pub reg_kept : (at : ℕ) (r : Register) (l : Option (List ℕ)) → IsSound (after x (g.Reg l n)) → first_rule x (g.Reg l n) ≡ None → at ≡ length d.regs.items → r ≡ record { name = n; width = capped_width l; next = Zero } → AddsName d.scope new.scope n (m.Reg at) →
      new.to_declare.items ≡ d.to_declare.items → new.inputs.items ≡ d.inputs.items → new.outputs.items ≡ d.outputs.items → new.wires.items ≡ d.wires.items → new.regs.items ≡ d.regs.items ++ r ∷ [] →
      new.assigns.items ≡ d.assigns.items → new.given_wires.items ≡ d.given_wires.items → new.given_outputs.items ≡ d.given_outputs.items → new.updated.items ≡ d.updated.items ++ false ∷ [] → new.bits ≡ d.bits + capped_width l →
      IsDraft new (after x (g.Reg l n))
  reg_kept at r l sound rule place made scope td ins outs wires regs given gw go up bits =
      let k = keeps x (g.Reg l n) rule in
      let p = own_parts x n k.name in
      let w = width_of l in
      let some = some_width l in
      let few : bits_of x.regs + w ≤ 65536 = not_over 65536 (bits_of x.regs + w) k.limit in
      let cap : capped_width l ≡ w = uncapped l (omega (arith, few)) in
      let q : Declared = record { name = n; width = w; next = None } in
      let here : at ≡ length x.regs = place ∙ ap length h.regs ∙ length-map x.regs register_of in
      let sum : bits_of (x.regs ++ q ∷ []) ≡ bits_of x.regs + w = let a = sum_by-append (λ (r : Declared). r.width) x.regs (q ∷ []) in let b = sum_by-cons (λ (r : Declared). r.width) q [] in omega (arith, a, b) in
      record {
        to_declare = ap ports_now td ∙ h.to_declare;
        names = subst (λ (i : ℕ). (t : List ℕ) → meaning_found (find new.scope t) ≡ found t (x.entries ++ entry n (RegAt i) ∷ [])) here (names_more d.scope new.scope x.entries n (m.Reg at) h.names scope p.0);
        inputs = ins ∙ h.inputs;
        outputs = outs ∙ h.outputs;
        wires = wires ∙ h.wires;
        regs = regs ∙ (λ i. h.regs i ++ (made ∙ (λ j. record { name = n; width = cap j; next = Zero })) i ∷ []) ∙ sym (map-append register_of x.regs (q ∷ []));
        assigns = given ∙ h.assigns;
        given_wires = subst (λ (fs : List Bool). AreFlags fs (length x.wires) (λ w. is_given x.assigns (target.Wire w))) (sym gw) h.given_wires;
        given_outputs = subst (λ (fs : List Bool). AreFlags fs (length x.outputs) (λ o. is_given x.assigns (target.Out o))) (sym go) h.given_outputs;
        updated = up ∙ ap (λ (fs : List Bool). fs ++ false ∷ []) h.updated ∙ sym (map-append (λ r. is_some r.next) x.regs (q ∷ []));
        bits = let b = h.bits in omega (arith, bits, b, cap, sum);
        sound = sound;
      }

-- ---- the header

pub header_kept : (d new : source.Draft) (x : SoFar) (name : List ℕ) (ports : List (List ℕ)) → IsDraft d nothing_yet → IsSound (after x (g.Header name ports)) → first_rule x (g.Header name ports) ≡ None → ports_now new.to_declare.items ≡ ports →
    new ≡ record d { to_declare = new.to_declare } → IsDraft new (after x (g.Header name ports))
header_kept d new x name ports h sound rule td same =
    subst (λ (e : source.Draft). IsDraft e (record nothing_yet { to_declare = ports })) (sym same) (record {
      to_declare = td;
      names = h.names;
      inputs = h.inputs;
      outputs = h.outputs;
      wires = h.wires;
      regs = h.regs;
      assigns = h.assigns;
      given_wires = h.given_wires;
      given_outputs = h.given_outputs;
      updated = h.updated;
      bits = h.bits;
      sound = sound;
    })
