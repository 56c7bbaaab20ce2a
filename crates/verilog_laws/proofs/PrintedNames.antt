-- The names that a valid module has, and its widths, as tests of lists.
use Rattle.std.proofs.Common.{◌≡◌, ℕ, zero, suc, ◌≤◌, ◌<◌, Bool, true, not, ◌&&◌, List, [], ◌∷◌, length, get_or, Some, refl, subst, arith}
use Rattle.std.specs.Prelude.{nat_le, slice_get, sum_by}
use Rattle.std.specs.List.{list_all}
use Rattle.std.specs.Char.{is_ascii_alphabetic}
use Rattle.std.proofs.lemmas.Bool.{and_parts, and_from, leb-true, le-leb}
use Rattle.std.proofs.lemmas.Bool.Decides.{nat_tests}
use Rattle.std.proofs.lemmas.List.Sums.{list_all-from_AllPass, sum_by-cons}
use Rattle.rl_text.specs.Names.{is_name_start, is_verilog_name_byte, is_verilog_name}
use Rattle.circuit.specs.Circuit.{Register, Circuit}
use Rattle.circuit.specs.Names.{in_name, out_name, is_port_byte, is_own_first, is_own_byte, is_port_name, is_reserved, is_own_name}
use Rattle.circuit.specs.Valid.{IsValid}

-- ---- lists

-- at a place inside a list is an element, which passes where all pass
pub some_at : {X : Type 0} (p : X → Bool) (xs : List X) (i : ℕ) → list_all p xs ≡ true → i < length xs → (x : X) × (slice_get xs i ≡ Some x) × (p x ≡ true)
some_at p [] i h l = absurd (omega (arith, l))
some_at p (x ∷ xs) zero h l = (x, refl, (and_parts (p x) (list_all p xs) h).0)
some_at p (x ∷ xs) (suc i) h l = some_at p xs i (and_parts (p x) (list_all p xs) h).1 (omega (arith, l))

pub passes_at : {X : Type 0} (p : X → Bool) (xs : List X) (i : ℕ) (x : X) → list_all p xs ≡ true → slice_get xs i ≡ Some x → p x ≡ true
passes_at p [] i x h e = absurd cc
passes_at p (y ∷ xs) zero x h e = let same : y ≡ x = cc in subst (λ z. p z ≡ true) same (and_parts (p y) (list_all p xs) h).0
passes_at p (y ∷ xs) (suc i) x h e = passes_at p xs i x (and_parts (p y) (list_all p xs) h).1 e

pub all_weaker : {X : Type 0} (p q : X → Bool) → ((x : X) → p x ≡ true → q x ≡ true) → (xs : List X) → list_all p xs ≡ true → list_all q xs ≡ true
all_weaker p q f [] h = refl
all_weaker p q f (x ∷ xs) h = let a = and_parts (p x) (list_all p xs) h in and_from (q x) (list_all q xs) (f x a.0) (all_weaker p q f xs a.1)

pub all_both : {X : Type 0} (p q : X → Bool) (xs : List X) → list_all p xs ≡ true → list_all q xs ≡ true → list_all (λ x. p x && q x) xs ≡ true
all_both p q [] h k = refl
all_both p q (x ∷ xs) h k =
    let a = and_parts (p x) (list_all p xs) h in
    let b = and_parts (q x) (list_all q xs) k in
    and_from (p x && q x) (list_all (λ y. p y && q y) xs) (and_from (p x) (q x) a.0 b.0) (all_both p q xs a.1 b.1)

-- ---- names

port_byte : (b : ℕ) → is_port_byte b ≡ true → is_verilog_name_byte b ≡ true
port_byte b h = grind (arith, nat_tests)

letter : (b : ℕ) → is_ascii_alphabetic b ≡ true → is_verilog_name_byte b ≡ true
letter b h = grind (arith, nat_tests)

own_byte : (b : ℕ) → is_own_byte b ≡ true → is_verilog_name_byte b ≡ true
own_byte b h = grind (arith, nat_tests)

own_first : (b : ℕ) → is_own_first b ≡ true → is_name_start b ≡ true
own_first b h = grind (arith, nat_tests)

port_bytes : (n : List ℕ) → is_port_name n ≡ true → list_all is_verilog_name_byte n ≡ true
port_bytes [] h = refl
port_bytes (b ∷ n) h =
    let a = and_parts (is_ascii_alphabetic b && list_all is_port_byte n) (nat_le (length (b ∷ n)) 32) h in
    let c = and_parts (is_ascii_alphabetic b) (list_all is_port_byte n) a.0 in
    and_from (is_verilog_name_byte b) (list_all is_verilog_name_byte n) (letter b c.0) (all_weaker is_port_byte is_verilog_name_byte port_byte n c.1)

pub input_is_name : (n : List ℕ) → is_port_name n ≡ true → is_verilog_name (in_name n) ≡ true
input_is_name n h = port_bytes n h

pub output_is_name : (n : List ℕ) → is_port_name n ≡ true → is_verilog_name (out_name n) ≡ true
output_is_name n h = port_bytes n h

pub own_is_name : (n : List ℕ) → is_own_name n ≡ true → is_verilog_name n ≡ true
own_is_name [] h = absurd cc
own_is_name (b ∷ n) h =
    let a = and_parts ((is_own_first b && list_all is_own_byte n) && nat_le (length (b ∷ n)) 40) (not (is_reserved (b ∷ n))) h in
    let d = and_parts (is_own_first b && list_all is_own_byte n) (nat_le (length (b ∷ n)) 40) a.0 in
    let c = and_parts (is_own_first b) (list_all is_own_byte n) d.0 in
    and_from (is_name_start b) (list_all is_verilog_name_byte n) (own_first b c.0) (all_weaker is_own_byte is_verilog_name_byte own_byte n c.1)

-- ---- a valid module

-- it has at least one bit and at most as many as a module may have
abbrev pub is_narrow : Register → Bool
is_narrow r = nat_le 1 r.width && nat_le r.width 65536

-- a register's name and width are right
abbrev pub is_register : Register → Bool
is_register r = is_own_name r.name && is_narrow r

pub record IsPrintable (m : Circuit) : Type 0 where
  pub inputs : list_all is_port_name m.inputs ≡ true
  pub outputs : list_all is_port_name m.outputs ≡ true
  pub wires : list_all is_own_name m.wires ≡ true
  pub regs : list_all is_register m.regs ≡ true

all_narrow : (rs : List Register) (n : ℕ) → sum_by (λ r. r.width) rs ≤ n → list_all (λ r. nat_le r.width n) rs ≡ true
all_narrow [] n h = refl
all_narrow (r ∷ rs) n h =
    let all = sum_by-cons (λ (s : Register). s.width) r rs in
    and_from (nat_le r.width n) (list_all (λ s. nat_le s.width n) rs) (le-leb r.width n (omega (arith, h, all))) (all_narrow rs n (omega (arith, h, all)))

pub printable : (m : Circuit) → IsValid m → IsPrintable m
printable m v = record {
  inputs = list_all-from_AllPass is_port_name m.inputs v.names.inputs;
  outputs = list_all-from_AllPass is_port_name m.outputs v.names.outputs;
  wires = list_all-from_AllPass is_own_name m.wires v.names.wires;
  regs = all_both (λ r. is_own_name r.name) is_narrow m.regs (list_all-from_AllPass (λ r. is_own_name r.name) m.regs v.names.regs)
      (all_both (λ r. nat_le 1 r.width) (λ r. nat_le r.width 65536) m.regs
      (list_all-from_AllPass (λ r. nat_le 1 r.width) m.regs (λ k d l. le-leb 1 (get_or m.regs k d).width (v.widths k d l)))
      (all_narrow m.regs 65536 v.few_bits));
}

-- what each test says of a register
pub record IsRegister (r : Register) : Type 0 where
  pub own : is_own_name r.name ≡ true
  pub word : is_verilog_name r.name ≡ true
  pub some : 1 ≤ r.width
  pub few : r.width ≤ 65536

pub register_is : (r : Register) → is_register r ≡ true → IsRegister r
register_is r h =
    let a = and_parts (is_own_name r.name) (is_narrow r) h in
    let b = and_parts (nat_le 1 r.width) (nat_le r.width 65536) a.1 in
    record { own = a.0; word = own_is_name r.name a.0; some = leb-true 1 r.width b.0; few = leb-true r.width 65536 b.1 }
