-- How many ports of each direction a header has, and what their names are.
use Rattle.std.proofs.Common.{◌≡◌, ℕ, zero, suc, ◌+◌, ◌-◌, ◌≤◌, Bool, true, false, cond, ◌&&◌, ◌||◌, leb, List, [], ◌∷◌, ◌++◌, length, take, drop, refl, sym, ap, subst, ◌∙◌, arith, codes}
use Rattle.std.specs.Prelude.{count_by}
use Rattle.std.specs.List.{list_all}
use Rattle.std.specs.Str.{bytes_eq}
use Rattle.std.proofs.lemmas.List.Sums.{sum_by-cons}
use Rattle.std.proofs.lemmas.Bool.{and_parts}
use Rattle.circuit.specs.Names.{in_name, out_name, is_port_name}
use Rattle.verilog_text.specs.Judging.{is_clock_or_reset, is_input_port, is_output_port, inputs_in, are_ports, is_few, are_few, is_next}
use Rattle.verilog_laws.proofs.Looked.{eq_same}

-- ---- counts

count_cons : (test : List ℕ → Bool) (n : List ℕ) (ns : List (List ℕ)) → count_by test (n ∷ ns) ≡ cond (test n) 1 0 + count_by test ns
count_cons test n ns = sum_by-cons (λ m. cond (test m) 1 0) n ns

pub count_in : (test : List ℕ → Bool) (n : List ℕ) (ns : List (List ℕ)) → test n ≡ true → count_by test (n ∷ ns) ≡ count_by test ns + 1
count_in test n ns h = let a = count_cons test n ns in let b : ◌≡◌ {A = ℕ} (cond (test n) 1 0) 1 = ap (λ (b : Bool). cond {A = ℕ} b 1 0) h in omega (arith, a, b)

pub count_out : (test : List ℕ → Bool) (n : List ℕ) (ns : List (List ℕ)) → test n ≡ false → count_by test (n ∷ ns) ≡ count_by test ns
count_out test n ns h = let a = count_cons test n ns in let b : ◌≡◌ {A = ℕ} (cond (test n) 1 0) 0 = ap (λ (b : Bool). cond {A = ℕ} b 1 0) h in omega (arith, a, b)

-- ---- what a port's name is no other

with_front : (front n : List ℕ) (k : ℕ) → bytes_eq (take k n) front ≡ true → front ++ drop k n ≡ n
with_front front n k h = ap (λ (f : List ℕ). f ++ drop k n) (sym (eq_same (take k n) front h)) ∙ joined k n where
  joined : (k : ℕ) (n : List ℕ) → take k n ++ drop k n ≡ n
  joined zero n = refl
  joined (suc k) [] = refl
  joined (suc k) (b ∷ n) = ap (λ (z : List ℕ). b ∷ z) (joined k n)

pub input_name : (n : List ℕ) → is_input_port n ≡ true → (in_name (drop 3 n) ≡ n) × (is_port_name (drop 3 n) ≡ true)
input_name n h = let p = and_parts (bytes_eq (take 3 n) (codes "in_")) (is_port_name (drop 3 n)) h in (with_front (codes "in_") n 3 p.0, p.1)

pub output_name : (n : List ℕ) → is_output_port n ≡ true → (out_name (drop 4 n) ≡ n) × (is_port_name (drop 4 n) ≡ true)
output_name n h = let p = and_parts (bytes_eq (take 4 n) (codes "out_")) (is_port_name (drop 4 n)) h in (with_front (codes "out_") n 4 p.0, p.1)

pub input_no_output : (n : List ℕ) → is_input_port n ≡ true → is_output_port n ≡ false
input_no_output n h = subst (λ (z : List ℕ). is_output_port z ≡ false) (input_name n h).0 refl

pub output_no_input : (n : List ℕ) → is_output_port n ≡ true → is_input_port n ≡ false
output_no_input n h = subst (λ (z : List ℕ). is_input_port z ≡ false) (output_name n h).0 refl

pub clock_no_port : (n : List ℕ) → is_clock_or_reset n ≡ true → (is_input_port n ≡ false) × (is_output_port n ≡ false)
clock_no_port n h = either (bytes_eq n (codes "clk")) (bytes_eq n (codes "rst")) refl refl h where
  either : (a b : Bool) → bytes_eq n (codes "clk") ≡ a → bytes_eq n (codes "rst") ≡ b → (a || b) ≡ true → (is_input_port n ≡ false) × (is_output_port n ≡ false)
  either true b e f h = let s = sym (eq_same n (codes "clk") e) in (subst (λ (z : List ℕ). is_input_port z ≡ false) s refl, subst (λ (z : List ℕ). is_output_port z ≡ false) s refl)
  either false true e f h = let s = sym (eq_same n (codes "rst") f) in (subst (λ (z : List ℕ). is_input_port z ≡ false) s refl, subst (λ (z : List ℕ). is_output_port z ≡ false) s refl)
  either false false e f h = absurd cc

-- the name is the first of those to declare
pub next_is : (n : List ℕ) (ns : List (List ℕ)) → is_next n ns ≡ true → ns ≡ n ∷ drop 1 ns
next_is n [] h = absurd cc
next_is n (x ∷ ns) h = ap (λ (z : List ℕ). z ∷ ns) (sym (eq_same n x h))

-- ---- the counts of a header

counts : (ps : List (List ℕ)) → list_all is_output_port (drop (inputs_in ps) ps) ≡ true →
    (count_by is_input_port ps ≡ inputs_in ps) × (count_by is_output_port ps + inputs_in ps ≡ length ps)
counts [] h = (refl, refl)
counts (p ∷ ps) h = first (is_input_port p) refl (counts ps) h where
  outputs : (qs : List (List ℕ)) → list_all is_output_port qs ≡ true → (count_by is_input_port qs ≡ 0) × (count_by is_output_port qs ≡ length qs)
  outputs [] h = (refl, refl)
  outputs (q ∷ qs) h =
      let a = and_parts (is_output_port q) (list_all is_output_port qs) h in
      let b = outputs qs a.1 in
      let c = count_out is_input_port q qs (output_no_input q a.0) in
      let d = count_in is_output_port q qs a.0 in
      (omega (arith, b.0, c), omega (arith, b.1, d))

  first : (b : Bool) → is_input_port p ≡ b →
      (list_all is_output_port (drop (inputs_in ps) ps) ≡ true → (count_by is_input_port ps ≡ inputs_in ps) × (count_by is_output_port ps + inputs_in ps ≡ length ps)) →
      list_all is_output_port (drop (cond b (1 + inputs_in ps) 0) (p ∷ ps)) ≡ true →
      (count_by is_input_port (p ∷ ps) ≡ cond b (1 + inputs_in ps) 0) × (count_by is_output_port (p ∷ ps) + cond b (1 + inputs_in ps) 0 ≡ length (p ∷ ps))
  first true e again h =
      let one : 1 + inputs_in ps ≡ suc (inputs_in ps) = omega arith in
      let r = again (subst (λ (n : ℕ). list_all is_output_port (drop n (p ∷ ps)) ≡ true) one h) in
      let c = count_in is_input_port p ps e in
      let d = count_out is_output_port p ps (input_no_output p e) in
      (omega (arith, r.0, c), omega (arith, r.1, d))
  first false e again h = let o = outputs (p ∷ ps) h in (o.0, omega (arith, o.1))

-- how many of either direction a header's ports have
pub record HasFew (ports : List (List ℕ)) : Type 0 where
  pub some_input : 1 ≤ count_by is_input_port ports
  pub few_inputs : count_by is_input_port ports ≤ 64
  pub some_output : 1 ≤ count_by is_output_port ports
  pub few_outputs : count_by is_output_port ports ≤ 64

le_of : (m n : ℕ) → leb m n ≡ true → m ≤ n
le_of m n e = grind arith

few_is : (n : ℕ) → is_few n ≡ true → (1 ≤ n) × (n ≤ 64)
few_is n h = let p = and_parts (leb 1 n) (leb n 64) h in (le_of 1 n p.0, le_of n 64 p.1)

pub has_few : (ports : List (List ℕ)) → are_ports ports ≡ true → are_few ports ≡ true → HasFew ports
has_few [] h f = absurd cc
has_few (a ∷ []) h f = absurd cc
has_few (a ∷ b ∷ ps) h f =
    let p = and_parts (bytes_eq a (codes "clk") && bytes_eq b (codes "rst")) (list_all is_output_port (drop (inputs_in ps) ps)) h in
    let q = and_parts (bytes_eq a (codes "clk")) (bytes_eq b (codes "rst")) p.0 in
    let ca = clock_no_port a (ap (λ (t : Bool). t || bytes_eq a (codes "rst")) q.0) in
    let cb = clock_no_port b (ap (λ (t : Bool). bytes_eq b (codes "clk") || t) q.1 ∙ last (bytes_eq b (codes "clk"))) in
    let i1 = count_out is_input_port a (b ∷ ps) ca.0 in
    let i2 = count_out is_input_port b ps cb.0 in
    let o1 = count_out is_output_port a (b ∷ ps) ca.1 in
    let o2 = count_out is_output_port b ps cb.1 in
    let c = counts ps p.1 in
    let g = and_parts (is_few (inputs_in ps)) (is_few (length ps - inputs_in ps)) f in
    let x = few_is (inputs_in ps) g.0 in
    let y = few_is (length ps - inputs_in ps) g.1 in
    record {
      some_input = omega (arith, i1, i2, c.0, x.0);
      few_inputs = omega (arith, i1, i2, c.0, x.1);
      some_output = omega (arith, o1, o2, c.1, y.0);
      few_outputs = omega (arith, o1, o2, c.1, y.1);
    } where
      last : (t : Bool) → (t || true) ≡ true
      last true = refl
      last false = refl
