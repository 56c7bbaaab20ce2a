-- The header and the declarations of a printed module break no rule.
use Rattle.std.proofs.Common.{◌≡◌, ℕ, ◌+◌, ◌-◌, ◌≤◌, Bool, true, false, not, cond, ◌||◌, List, [], ◌∷◌, ◌++◌, length, drop, map, Option, Some, None, refl, sym, ap, subst, ◌∙◌, arith, append_assoc, eqb}
use Rattle.std.specs.Prelude.{codes, decimal, nat_lt, nat_le, bytes_eq, sum_by}
use Rattle.std.specs.List.{list_all, list_any}
use Rattle.std.proofs.lemmas.Bool.{and_parts, and_from, leb-true, le-leb, le-ltb}
use Rattle.std.proofs.lemmas.Bool.Decides.{nat_tests}
use Rattle.std.proofs.lemmas.List.{map-append, append-nil, length-map, length-append, drop_at}
use Rattle.std.proofs.lemmas.List.Sums.{sum_by-cons, sum_by-append}
use Rattle.std.proofs.lemmas.Slice.Eq.{bytes_eq-Decides}
use Rattle.circuit.specs.Circuit.{Assignment, Register, Circuit, register_bits}
use Rattle.circuit.specs.Names.{in_name, out_name, is_port_name, is_reserved, is_own_name, declared_names}
use Rattle.circuit.specs.Valid.{IsValid}
use Rattle.verilog_text.specs.Grammar.{Form, Header, Input, Output, Wire, Reg}
use Rattle.verilog_text.specs.Judging.{Meaning, InputAt, OutputAt, WireAt, RegAt, Entry, Declared, SoFar, nothing_yet, found, bits_of, is_clock_or_reset, is_input_port, is_output_port, inputs_in, are_ports, is_few, are_few, is_next, width_of, with_reg, after, input_misnamed, output_misnamed, own_misnamed, breaks_name, breaks_order, breaks_width, breaks_limit, first_rule}
use Rattle.verilog_laws.proofs.Printed.{printed_register, printed_ports}
use Rattle.circuit.specs.Tested.{all_distinct}
use Rattle.verilog_laws.proofs.PrintedDigits.{decimal_is}
use Rattle.verilog_laws.proofs.PrintedNames.{is_register, IsRegister, register_is}
use Rattle.verilog_laws.proofs.PrintedEntries.{entries_at, entries_more, entries, entries_names, clocks, register_names, names_in, is_new}
use Rattle.verilog_laws.proofs.PrintedStatements.{AllKeep}

abbrev pub so_far : List (List ℕ) → List Entry → List (List ℕ) → List (List ℕ) → List (List ℕ) → List Declared → List Assignment → SoFar
so_far to_declare es is os ws rs as_ = record { to_declare = to_declare; entries = es; inputs = is; outputs = os; wires = ws; regs = rs; assigns = as_ }

-- a register that no always statement has given
abbrev pub unset : Register → Declared
unset r = record { name = r.name; width = r.width; next = None }

-- these are declared, and these ports are still to be
abbrev pub declaring : List (List ℕ) → List (List ℕ) → List (List ℕ) → List Register → List (List ℕ) → SoFar
declaring is os ws rs to_declare = so_far to_declare (entries (map in_name is) (map out_name os) ws (register_names rs)) is os ws (map unset rs) []

pub keeps : (x : SoFar) (f : Form) → breaks_name x f ≡ false → breaks_order x f ≡ false → breaks_width x f ≡ false → breaks_limit x f ≡ false → first_rule x f ≡ None
keeps x f a b c d = rw (a, b, c, d) refl

self : (n : List ℕ) → bytes_eq n n ≡ true
self n = (bytes_eq-Decides n n).1 refl

-- ---- entries

grown : (front : List Entry) (f : ℕ → Meaning) (names : List (List ℕ)) (n : List ℕ) (k : ℕ) → k ≡ length names → (front ++ entries_at f 0 names) ++ record { name = n; meaning = f k } ∷ [] ≡ front ++ entries_at f 0 (names ++ n ∷ [])
grown front f names n k e =
    let z : k ≡ 0 + length names = omega (arith, e) in
    append_assoc front (entries_at f 0 names) (record { name = n; meaning = f k } ∷ [])
    ∙ ap (λ (es : List Entry). front ++ es) (ap (λ (j : ℕ). entries_at f 0 names ++ record { name = n; meaning = f j } ∷ []) z ∙ sym (entries_more f 0 names n))

three_more : (es : List Entry) → ((es ++ []) ++ []) ++ [] ≡ es
three_more es = simp append-nil

two_more : (es : List Entry) → (es ++ []) ++ [] ≡ es
two_more es = simp append-nil

input_entries : (is : List (List ℕ)) (n : List ℕ) (k : ℕ) → k ≡ length is → entries is [] [] [] ++ record { name = n; meaning = InputAt k } ∷ [] ≡ entries (is ++ n ∷ []) [] [] []
input_entries is n k e =
    ap (λ (es : List Entry). es ++ record { name = n; meaning = InputAt k } ∷ []) (three_more (clocks ++ entries_at InputAt 0 is)) ∙ grown clocks InputAt is n k e
    ∙ sym (three_more (clocks ++ entries_at InputAt 0 (is ++ n ∷ [])))

output_entries : (is os : List (List ℕ)) (n : List ℕ) (k : ℕ) → k ≡ length os → entries is os [] [] ++ record { name = n; meaning = OutputAt k } ∷ [] ≡ entries is (os ++ n ∷ []) [] []
output_entries is os n k e =
    let front = clocks ++ entries_at InputAt 0 is in
    ap (λ (es : List Entry). es ++ record { name = n; meaning = OutputAt k } ∷ []) (two_more (front ++ entries_at OutputAt 0 os)) ∙ grown front OutputAt os n k e
    ∙ sym (two_more (front ++ entries_at OutputAt 0 (os ++ n ∷ [])))

wire_entries : (is os ws : List (List ℕ)) (n : List ℕ) (k : ℕ) → k ≡ length ws → entries is os ws [] ++ record { name = n; meaning = WireAt k } ∷ [] ≡ entries is os (ws ++ n ∷ []) []
wire_entries is os ws n k e =
    let front = (clocks ++ entries_at InputAt 0 is) ++ entries_at OutputAt 0 os in
    ap (λ (es : List Entry). es ++ record { name = n; meaning = WireAt k } ∷ []) (append-nil (front ++ entries_at WireAt 0 ws)) ∙ grown front WireAt ws n k e
    ∙ sym (append-nil (front ++ entries_at WireAt 0 (ws ++ n ∷ [])))

reg_entries : (is os ws rs : List (List ℕ)) (n : List ℕ) (k : ℕ) → k ≡ length rs → entries is os ws rs ++ record { name = n; meaning = RegAt k } ∷ [] ≡ entries is os ws (rs ++ n ∷ [])
reg_entries is os ws rs n k e = grown (((clocks ++ entries_at InputAt 0 is) ++ entries_at OutputAt 0 os) ++ entries_at WireAt 0 ws) RegAt rs n k e

-- ---- what each declaration adds

input_after : (done : List (List ℕ)) (n : List ℕ) (to_declare : List (List ℕ)) → after (declaring done [] [] [] (in_name n ∷ to_declare)) (Input (in_name n)) ≡ declaring (done ++ n ∷ []) [] [] [] to_declare
input_after done n to_declare =
    let e = input_entries (map in_name done) (in_name n) (length done) (sym (length-map done in_name)) ∙ ap (λ (is : List (List ℕ)). entries is [] [] []) (sym (map-append in_name done (n ∷ []))) in
    ap (λ (es : List Entry). so_far to_declare es (done ++ n ∷ []) [] [] [] []) e

output_after : (is done : List (List ℕ)) (n : List ℕ) (to_declare : List (List ℕ)) → after (declaring is done [] [] (out_name n ∷ to_declare)) (Output (out_name n)) ≡ declaring is (done ++ n ∷ []) [] [] to_declare
output_after is done n to_declare =
    let e = output_entries (map in_name is) (map out_name done) (out_name n) (length done) (sym (length-map done out_name)) ∙ ap (λ (os : List (List ℕ)). entries (map in_name is) os [] []) (sym (map-append out_name done (n ∷ []))) in
    ap (λ (es : List Entry). so_far to_declare es is (done ++ n ∷ []) [] [] []) e

wire_after : (is os done : List (List ℕ)) (n : List ℕ) → after (declaring is os done [] []) (Wire n) ≡ declaring is os (done ++ n ∷ []) [] []
wire_after is os done n = ap (λ (es : List Entry). so_far [] es is os (done ++ n ∷ []) [] []) (wire_entries (map in_name is) (map out_name os) done n (length done) refl)

reg_after : (is os ws : List (List ℕ)) (done : List Register) (g : Register) → with_reg g.name g.width (declaring is os ws done []) ≡ declaring is os ws (done ++ g ∷ []) []
reg_after is os ws done g =
    let name_of : Register → List ℕ = λ r. r.name in
    let same = length-map done name_of in
    let also = length-map done unset in
    let e = reg_entries (map in_name is) (map out_name os) ws (register_names done) g.name (length (map unset done)) (omega (arith, same, also))
    ∙ ap (λ (rs : List (List ℕ)). entries (map in_name is) (map out_name os) ws rs) (sym (map-append name_of done (g ∷ []))) in
    λ i. so_far [] (e i) is os ws (sym (map-append unset done (g ∷ [])) i) []

-- ---- names

short_port : (n : List ℕ) → is_port_name n ≡ true → length n ≤ 32
short_port n h = leb-true (length n) 32 (and_parts _ (nat_le (length n) 32) h).1

short_own : (n : List ℕ) → is_own_name n ≡ true → length n ≤ 40
short_own n h = leb-true (length n) 40 (and_parts _ (nat_le (length n) 40) (and_parts _ (not (is_reserved n)) h).0).1

input_named : (x : SoFar) (n : List ℕ) → nat_lt 40 (length n) ≡ false → found n x.entries ≡ None → is_next n x.to_declare ≡ true → nat_lt 0 (length x.wires) ≡ false → nat_lt 0 (length x.regs) ≡ false
    → (is_clock_or_reset n || is_input_port n) ≡ true → input_misnamed x n ≡ false
input_named x n a b c d e f = rw (a, b, c, d, e, f) refl

output_named : (x : SoFar) (n : List ℕ) → nat_lt 40 (length n) ≡ false → found n x.entries ≡ None → is_next n x.to_declare ≡ true → nat_lt 0 (length x.wires) ≡ false → nat_lt 0 (length x.regs) ≡ false
    → is_output_port n ≡ true → output_misnamed x n ≡ false
output_named x n a b c d e f = rw (a, b, c, d, e, f) refl

own_named : (x : SoFar) (n : List ℕ) → nat_lt 40 (length n) ≡ false → found n x.entries ≡ None → is_own_name n ≡ true → list_any (bytes_eq n) x.to_declare ≡ false → own_misnamed x n ≡ false
own_named x n a b c d = rw (a, b, c, d) refl

-- ---- new names

distinct_as : (es : List Entry) (n : List ℕ) (behind all : List (List ℕ)) → all_distinct all ≡ true → names_in es ++ n ∷ behind ≡ all → found n es ≡ None
distinct_as es n behind all d e = is_new es n behind (subst (λ (ns : List (List ℕ)). all_distinct ns ≡ true) (sym e) d)

split_input : (a b o w r : List (List ℕ)) (c s n : List ℕ) → (c ∷ s ∷ (((a ++ []) ++ []) ++ [])) ++ n ∷ (b ++ (o ++ (w ++ r))) ≡ c ∷ s ∷ ((((a ++ n ∷ b) ++ o) ++ w) ++ r)
split_input a b o w r c s n = simp (append_assoc, append-nil)

split_output : (i a b w r : List (List ℕ)) (c s n : List ℕ) → (c ∷ s ∷ (((i ++ a) ++ []) ++ [])) ++ n ∷ (b ++ (w ++ r)) ≡ c ∷ s ∷ (((i ++ (a ++ n ∷ b)) ++ w) ++ r)
split_output i a b w r c s n = simp (append_assoc, append-nil)

split_wire : (i o a b r : List (List ℕ)) (c s n : List ℕ) → (c ∷ s ∷ (((i ++ o) ++ a) ++ [])) ++ n ∷ (b ++ r) ≡ c ∷ s ∷ (((i ++ o) ++ (a ++ n ∷ b)) ++ r)
split_wire i o a b r c s n = simp (append_assoc, append-nil)

split_reg : (i o w a b : List (List ℕ)) (c s n : List ℕ) → (c ∷ s ∷ (((i ++ o) ++ w) ++ a)) ++ n ∷ b ≡ c ∷ s ∷ (((i ++ o) ++ w) ++ (a ++ n ∷ b))
split_reg i o w a b c s n = simp append_assoc

module _ (m : Circuit) (d : all_distinct (declared_names m) ≡ true) where
  abbrev is : List (List ℕ)
  is = map in_name m.inputs

  abbrev os : List (List ℕ)
  os = map out_name m.outputs

  abbrev rs : List (List ℕ)
  rs = register_names m.regs

  abbrev all_with : List (List ℕ) → List (List ℕ) → List (List ℕ) → List (List ℕ) → List (List ℕ)
  all_with i o w r = codes "clk" ∷ codes "rst" ∷ (((i ++ o) ++ w) ++ r)

  new_input : (done ns : List (List ℕ)) (n : List ℕ) → m.inputs ≡ done ++ n ∷ ns → found (in_name n) (entries (map in_name done) [] [] []) ≡ None
  new_input done ns n q =
      let a = map in_name done in
      let behind = map in_name ns ++ (os ++ (m.wires ++ rs)) in
      let whole : is ≡ a ++ in_name n ∷ map in_name ns = ap (map in_name) q ∙ map-append in_name done (n ∷ ns) in
      distinct_as (entries a [] [] []) (in_name n) behind (declared_names m) d
      (ap (λ (xs : List (List ℕ)). xs ++ in_name n ∷ behind) (entries_names a [] [] []) ∙ split_input a (map in_name ns) os m.wires rs (codes "clk") (codes "rst") (in_name n)
      ∙ ap (λ (xs : List (List ℕ)). all_with xs os m.wires rs) (sym whole))

  new_output : (done ns : List (List ℕ)) (n : List ℕ) → m.outputs ≡ done ++ n ∷ ns → found (out_name n) (entries is (map out_name done) [] []) ≡ None
  new_output done ns n q =
      let a = map out_name done in
      let behind = map out_name ns ++ (m.wires ++ rs) in
      let whole : os ≡ a ++ out_name n ∷ map out_name ns = ap (map out_name) q ∙ map-append out_name done (n ∷ ns) in
      distinct_as (entries is a [] []) (out_name n) behind (declared_names m) d
      (ap (λ (xs : List (List ℕ)). xs ++ out_name n ∷ behind) (entries_names is a [] []) ∙ split_output is a (map out_name ns) m.wires rs (codes "clk") (codes "rst") (out_name n)
      ∙ ap (λ (xs : List (List ℕ)). all_with is xs m.wires rs) (sym whole))

  new_wire : (done ns : List (List ℕ)) (n : List ℕ) → m.wires ≡ done ++ n ∷ ns → found n (entries is os done []) ≡ None
  new_wire done ns n q =
      distinct_as (entries is os done []) n (ns ++ rs) (declared_names m) d
      (ap (λ (xs : List (List ℕ)). xs ++ n ∷ (ns ++ rs)) (entries_names is os done []) ∙ split_wire is os done ns rs (codes "clk") (codes "rst") n
      ∙ ap (λ (xs : List (List ℕ)). all_with is os xs rs) (sym q))

  new_reg : (done gs : List Register) (g : Register) → m.regs ≡ done ++ g ∷ gs → found g.name (entries is os m.wires (register_names done)) ≡ None
  new_reg done gs g q =
      let name_of : Register → List ℕ = λ r. r.name in
      let whole : rs ≡ register_names done ++ g.name ∷ register_names gs = ap register_names q ∙ map-append name_of done (g ∷ gs) in
      distinct_as (entries is os m.wires (register_names done)) g.name (register_names gs) (declared_names m) d
      (ap (λ (xs : List (List ℕ)). xs ++ g.name ∷ register_names gs) (entries_names is os m.wires (register_names done)) ∙ split_reg is os m.wires (register_names done) (register_names gs) (codes "clk") (codes "rst") g.name
      ∙ ap (λ (xs : List (List ℕ)). all_with is os m.wires xs) (sym whole))

  -- ---- one list after another

  pub inputs_keep : (done ns : List (List ℕ)) (rest : List Form) (last : SoFar) → m.inputs ≡ done ++ ns → list_all is_port_name ns ≡ true
      → AllKeep (declaring m.inputs [] [] [] os) rest last → AllKeep (declaring done [] [] [] (map in_name ns ++ os)) (map Input (map in_name ns) ++ rest) last
  inputs_keep done [] rest last q h k = subst (λ (x : List (List ℕ)). AllKeep (declaring x [] [] [] os) rest last) (q ∙ append-nil done) k
  inputs_keep done (n ∷ ns) rest last q h k =
      let a = and_parts (is_port_name n) (list_all is_port_name ns) h in
      let low = short_port n a.0 in
      let x = declaring done [] [] [] (map in_name (n ∷ ns) ++ os) in
      let more : m.inputs ≡ (done ++ n ∷ []) ++ ns = q ∙ sym (append_assoc done (n ∷ []) ns) in (
        keeps x (Input (in_name n)) (input_named x (in_name n) (le-ltb 40 (length (in_name n)) (omega (arith, low))) (new_input done ns n q) (self (in_name n)) refl refl a.0) refl refl refl,
        subst (λ (y : SoFar). AllKeep y (map Input (map in_name ns) ++ rest) last) (sym (input_after done n (map in_name ns ++ os))) (inputs_keep (done ++ n ∷ []) ns rest last more a.1 k),
      )

  pub outputs_keep : (done ns : List (List ℕ)) (rest : List Form) (last : SoFar) → m.outputs ≡ done ++ ns → list_all is_port_name ns ≡ true
      → AllKeep (declaring m.inputs m.outputs [] [] []) rest last → AllKeep (declaring m.inputs done [] [] (map out_name ns)) (map Output (map out_name ns) ++ rest) last
  outputs_keep done [] rest last q h k = subst (λ (x : List (List ℕ)). AllKeep (declaring m.inputs x [] [] []) rest last) (q ∙ append-nil done) k
  outputs_keep done (n ∷ ns) rest last q h k =
      let a = and_parts (is_port_name n) (list_all is_port_name ns) h in
      let low = short_port n a.0 in
      let x = declaring m.inputs done [] [] (map out_name (n ∷ ns)) in
      let more : m.outputs ≡ (done ++ n ∷ []) ++ ns = q ∙ sym (append_assoc done (n ∷ []) ns) in (
        keeps x (Output (out_name n)) (output_named x (out_name n) (le-ltb 40 (length (out_name n)) (omega (arith, low))) (new_output done ns n q) (self (out_name n)) refl refl a.0) refl refl refl,
        subst (λ (y : SoFar). AllKeep y (map Output (map out_name ns) ++ rest) last) (sym (output_after m.inputs done n (map out_name ns))) (outputs_keep (done ++ n ∷ []) ns rest last more a.1 k),
      )

  pub wires_keep : (done ns : List (List ℕ)) (rest : List Form) (last : SoFar) → m.wires ≡ done ++ ns → length m.wires ≤ 65536 → list_all is_own_name ns ≡ true
      → AllKeep (declaring m.inputs m.outputs m.wires [] []) rest last → AllKeep (declaring m.inputs m.outputs done [] []) (map Wire ns ++ rest) last
  wires_keep done [] rest last q few h k = subst (λ (x : List (List ℕ)). AllKeep (declaring m.inputs m.outputs x [] []) rest last) (q ∙ append-nil done) k
  wires_keep done (n ∷ ns) rest last q few h k =
      let a = and_parts (is_own_name n) (list_all is_own_name ns) h in
      let low = short_own n a.0 in
      let x = declaring m.inputs m.outputs done [] [] in
      let more : m.wires ≡ (done ++ n ∷ []) ++ ns = q ∙ sym (append_assoc done (n ∷ []) ns) in
      let size : length m.wires ≡ length done + length (n ∷ ns) = ap (λ (ws : List (List ℕ)). length ws) q ∙ length-append done (n ∷ ns) in (
        keeps x (Wire n) (own_named x n (le-ltb 40 (length n) low) (new_wire done ns n q) a.0 refl) refl refl (le-ltb 65536 (length done + 1) (omega (arith, few, size))),
        subst (λ (y : SoFar). AllKeep y (map Wire ns ++ rest) last) (sym (wire_after m.inputs m.outputs done n)) (wires_keep (done ++ n ∷ []) ns rest last more few a.1 k),
      )

  -- ---- registers

  abbrev range_of : Register → Option (List ℕ)
  range_of g = cond (eqb g.width 1) None (Some (decimal (g.width - 1)))

  as_reg : (g : Register) → printed_register g ≡ Reg (range_of g) g.name
  as_reg g = turn (eqb g.width 1) where
    turn : (b : Bool) → cond b (Reg None g.name) (Reg (Some (decimal (g.width - 1))) g.name) ≡ Reg (cond b None (Some (decimal (g.width - 1)))) g.name
    turn true = refl
    turn false = refl

  one_of : (n : ℕ) → eqb n 1 ≡ true → 1 ≡ n
  one_of n h = grind (arith, nat_tests)

  last_bit : (n : ℕ) → 1 ≤ n → eqb n 1 ≡ false → eqb (n - 1) 0 ≡ false
  last_bit n l h = grind (arith, nat_tests)

  width_is : (x : SoFar) (g : Register) → IsRegister g → (b : Bool) → eqb g.width 1 ≡ b
      → (width_of (cond b None (Some (decimal (g.width - 1)))) ≡ g.width) × (breaks_width x (Reg (cond b None (Some (decimal (g.width - 1)))) g.name) ≡ false)
  width_is x g is_g true e = (one_of g.width e, refl)
  width_is x g is_g false e =
      let few = is_g.few in
      let some = is_g.some in
      let value = (decimal_is (g.width - 1) (omega (arith, few))).value in
      (omega (arith, value, some), ap (λ (k : ℕ). eqb k 0) value ∙ last_bit g.width some e)

  bits_are : (gs : List Register) → bits_of (map unset gs) ≡ sum_by (λ (r : Register). r.width) gs
  bits_are [] = refl
  bits_are (g ∷ gs) = sum_by-cons (λ (r : Declared). r.width) (unset g) (map unset gs) ∙ ap (λ (n : ℕ). g.width + n) (bits_are gs) ∙ sym (sum_by-cons (λ (r : Register). r.width) g gs)

  reg_keeps : (x : SoFar) (g : Register) → IsRegister g → own_misnamed x g.name ≡ false → bits_of x.regs + g.width ≤ 65536 → first_rule x (Reg (range_of g) g.name) ≡ None
  reg_keeps x g is_g named few =
      let w = width_is x g is_g (eqb g.width 1) refl in
      let same : width_of (range_of g) ≡ g.width = w.0 in
      keeps x (Reg (range_of g) g.name) named refl w.1 (le-ltb 65536 (bits_of x.regs + width_of (range_of g)) (omega (arith, few, same)))

  pub regs_keep : (done gs : List Register) (rest : List Form) (last : SoFar) → m.regs ≡ done ++ gs → register_bits m ≤ 65536 → list_all is_register gs ≡ true
      → AllKeep (declaring m.inputs m.outputs m.wires m.regs []) rest last → AllKeep (declaring m.inputs m.outputs m.wires done []) (map printed_register gs ++ rest) last
  regs_keep done [] rest last q few h k = subst (λ (x : List Register). AllKeep (declaring m.inputs m.outputs m.wires x []) rest last) (q ∙ append-nil done) k
  regs_keep done (g ∷ gs) rest last q few h k =
      let a = and_parts (is_register g) (list_all is_register gs) h in
      let is_g = register_is g a.0 in
      let low = short_own g.name is_g.own in
      let x = declaring m.inputs m.outputs m.wires done [] in
      let width : Register → ℕ = λ r. r.width in
      let more : m.regs ≡ (done ++ g ∷ []) ++ gs = q ∙ sym (append_assoc done (g ∷ []) gs) in
      let size : register_bits m ≡ sum_by width done + sum_by width (g ∷ gs) = ap (λ (rs : List Register). sum_by width rs) q ∙ sum_by-append width done (g ∷ gs) in
      let one = sum_by-cons width g gs in
      let bits = bits_are done in
      let rule = reg_keeps x g is_g (own_named x g.name (le-ltb 40 (length g.name) low) (new_reg done gs g q) is_g.own refl) (omega (arith, few, size, one, bits)) in
      let wide = (width_is x g is_g (eqb g.width 1) refl).0 in
      let next : after x (Reg (range_of g) g.name) ≡ declaring m.inputs m.outputs m.wires (done ++ g ∷ []) [] = ap (λ (w : ℕ). with_reg g.name w x) wide ∙ reg_after m.inputs m.outputs m.wires done g in
      subst (λ (f : Form). AllKeep x (f ∷ (map printed_register gs ++ rest)) last) (sym (as_reg g))
      (rule, subst (λ (y : SoFar). AllKeep y (map printed_register gs ++ rest) last) (sym next) (regs_keep (done ++ g ∷ []) gs rest last more few a.1 k))

-- ---- the header

inputs_are : (is os : List (List ℕ)) → list_all is_port_name is ≡ true → inputs_in (map in_name is ++ map out_name os) ≡ length is
inputs_are [] [] h = refl
inputs_are [] (o ∷ os) h = refl
inputs_are (i ∷ is) os h =
    let a = and_parts (is_port_name i) (list_all is_port_name is) h in
    let n = inputs_are is os a.1 in
    ap (λ (b : Bool). cond b (1 + inputs_in (map in_name is ++ map out_name os)) 0) a.0 ∙ omega (arith, n)

outputs_are : (os : List (List ℕ)) → list_all is_port_name os ≡ true → list_all is_output_port (map out_name os) ≡ true
outputs_are [] h = refl
outputs_are (o ∷ os) h = let a = and_parts (is_port_name o) (list_all is_port_name os) h in and_from (is_port_name o) (list_all is_output_port (map out_name os)) a.0 (outputs_are os a.1)

few_is : (n : ℕ) → 1 ≤ n → n ≤ 64 → is_few n ≡ true
few_is n h k = and_from (nat_le 1 n) (nat_le n 64) (le-leb 1 n h) (le-leb n 64 k)

pub header_keeps : (m : Circuit) → IsValid m → list_all is_port_name m.inputs ≡ true → list_all is_port_name m.outputs ≡ true → first_rule nothing_yet (Header (codes "race") (printed_ports m)) ≡ None
header_keeps m v hi ho =
    let is = map in_name m.inputs in
    let os = map out_name m.outputs in
    let n = inputs_are m.inputs m.outputs hi in
    let behind : drop (inputs_in (is ++ os)) (is ++ os) ≡ os = ap (λ (k : ℕ). drop k (is ++ os)) n ∙ drop_at is os (length m.inputs) (length-map m.inputs in_name) in
    let ports : are_ports (printed_ports m) ≡ true = ap (list_all is_output_port) behind ∙ outputs_are m.outputs ho in
    let some_input = v.some_input in
    let few_inputs = v.few_inputs in
    let some_output = v.some_output in
    let few_outputs = v.few_outputs in
    let all = length-append is os in
    let ins = length-map m.inputs in_name in
    let outs = length-map m.outputs out_name in
    let rest : length (is ++ os) - inputs_in (is ++ os) ≡ length m.outputs = omega (arith, n, all, ins, outs) in
    let few : are_few (printed_ports m) ≡ true =
    and_from (is_few (inputs_in (is ++ os))) (is_few (length (is ++ os) - inputs_in (is ++ os))) (ap is_few n ∙ few_is (length m.inputs) some_input few_inputs) (ap is_few rest ∙ few_is (length m.outputs) some_output few_outputs) in
    keeps nothing_yet (Header (codes "race") (printed_ports m)) (ap not ports) refl refl (ap not few)
