-- What a look-up of names says of an expression, and what it says of a module.
use Rattle.std.proofs.Common.{◌≡◌, ℕ, ◌<◌, ◌≤◌, Bool, true, false, ◌&&◌, ltb, List, length, map, Option, Some, None, refl, sym, ap, ◌∙◌, arith, inl, inr}
use Rattle.std.specs.Prelude.{slice_get, min, is_some}
use Rattle.std.proofs.lemmas.Bool.{and_parts, cases_lt, lt-ltb, le-ltb}
use Rattle.circuit.specs.declared.bit.Target.TheVariants as target
use Rattle.circuit.specs.Circuit as c
use Rattle.circuit.specs.Circuit.{Logic, Register, Circuit, Assignment, names_wire}
use Rattle.verilog_text.specs.Grammar.{Expression, Low, High, Name, Bit, Not, Group, And, Or}
use Rattle.verilog_text.specs.Judging as j
use Rattle.verilog_text.specs.Judging.{SoFar, Entry, Declared, Meaning, ClockOrReset, InputAt, OutputAt, WireAt, RegAt, found, number_of, register_of, is_given, module_of}
use Rattle.verilog_read.specs.declared.scope.Meaning as source
use Rattle.verilog_read.specs.declared.scope.Meaning.TheVariants as m
use Rattle.verilog_read.specs.Known as k
use Rattle.verilog_read.specs.Known.{meaning_found, knows_by, given_by, fits_by, resolved_by, capped}
use Rattle.verilog_laws.specs.Sound.{IsSound}
use Rattle.verilog_read.specs.Draft.{AreFlags}
use Rattle.verilog_read.proofs.Places.{get_within, get_map, get_none}

-- ---- the reader's look-up is that of the definitions

operand_is : (o : Option source.Meaning) → k.is_operand o ≡ j.is_operand (meaning_found o)
operand_is None = refl
operand_is (Some m.ClockOrReset) = refl
operand_is (Some (m.Input i)) = refl
operand_is (Some (m.Output i)) = refl
operand_is (Some (m.Wire i)) = refl
operand_is (Some (m.Reg i)) = refl

pub reg_is : (o : Option source.Meaning) → k.is_reg o ≡ j.is_reg (meaning_found o)
reg_is None = refl
reg_is (Some m.ClockOrReset) = refl
reg_is (Some (m.Input i)) = refl
reg_is (Some (m.Output i)) = refl
reg_is (Some (m.Wire i)) = refl
reg_is (Some (m.Reg i)) = refl

pub some_is : (o : Option source.Meaning) → is_some o ≡ is_some (meaning_found o)
some_is None = refl
some_is (Some x) = refl

module _ (find : List ℕ → Option source.Meaning) (es : List Entry) (h : (t : List ℕ) → meaning_found (find t) ≡ found t es) where
  pub reg_known : (t : List ℕ) → k.is_reg (find t) ≡ j.is_reg (found t es)
  reg_known t = reg_is (find t) ∙ ap j.is_reg (h t)

  pub knows_is : (e : Expression) → knows_by find e ≡ j.knows es e
  knows_is Low = refl
  knows_is High = refl
  knows_is (Name t) = operand_is (find t) ∙ ap j.is_operand (h t)
  knows_is (Bit t d) = reg_known t
  knows_is (Not a) = knows_is a
  knows_is (Group a) = knows_is a
  knows_is (And a b) = λ i. knows_is a i && knows_is b i
  knows_is (Or a b) = λ i. knows_is a i && knows_is b i

-- ---- wires that are given

flag_is : (flags : List Bool) (x : SoFar) → AreFlags flags (length x.wires) (λ w. is_given x.assigns (target.Wire w)) →
    (o : Option source.Meaning) → ((i : ℕ) → meaning_found o ≡ Some (WireAt i) → i < length x.wires) → k.is_flagged flags o ≡ j.is_given_wire x.assigns (meaning_found o)
flag_is flags x f None h = refl
flag_is flags x f (Some m.ClockOrReset) h = refl
flag_is flags x f (Some (m.Input i)) h = refl
flag_is flags x f (Some (m.Output i)) h = refl
flag_is flags x f (Some (m.Wire i)) h = f.each i (h i refl)
flag_is flags x f (Some (m.Reg i)) h = refl

one_bit_is : (o : Option Declared) (p : Option Register) → ((r : Declared) → o ≡ Some r → p ≡ Some (register_of r)) → (o ≡ None → p ≡ None) → k.is_one_bit_reg p ≡ j.is_one_bit o
one_bit_is None p some none = ap k.is_one_bit_reg (none refl)
one_bit_is (Some r) p some none = ap k.is_one_bit_reg (some r refl)

capped_bit : (n w : ℕ) → w ≤ 65536 → ltb (min n 100000) w ≡ ltb n w
capped_bit n w h =
    elim (cases_lt n w) [
      | inl lt ↦ lt-ltb (min n 100000) w (omega arith) ∙ sym (lt-ltb n w lt)
      | inr le ↦ le-ltb (min n 100000) w (omega arith) ∙ sym (le-ltb n w le)
    ]

has_bit_is : (d : List ℕ) (o : Option Declared) (p : Option Register) → ((r : Declared) → o ≡ Some r → p ≡ Some (register_of r)) → (o ≡ None → p ≡ None) →
    ((r : Declared) → o ≡ Some r → r.width ≤ 65536) → k.has_bit_reg (capped d) p ≡ j.has_bit (number_of d) o
has_bit_is d None p some none few = ap (k.has_bit_reg (capped d)) (none refl)
has_bit_is d (Some r) p some none few = ap (k.has_bit_reg (capped d)) (some r refl) ∙ ap (λ (b : Bool). ltb 1 r.width && b) (capped_bit (number_of d) r.width (few r refl))

one_bit_at_is : (regs : List Declared) (o : Option source.Meaning) → k.is_one_bit_at (map register_of regs) o ≡ j.is_one_bit (j.reg_of regs (meaning_found o))
one_bit_at_is regs None = refl
one_bit_at_is regs (Some m.ClockOrReset) = refl
one_bit_at_is regs (Some (m.Input i)) = refl
one_bit_at_is regs (Some (m.Output i)) = refl
one_bit_at_is regs (Some (m.Wire i)) = refl
one_bit_at_is regs (Some (m.Reg i)) = one_bit_is (slice_get regs i) _ (get_map register_of regs i) (get_none register_of regs i)

has_bit_at_is : (d : List ℕ) (regs : List Declared) → ((i : ℕ) (r : Declared) → slice_get regs i ≡ Some r → r.width ≤ 65536) →
    (o : Option source.Meaning) → k.has_bit_at (map register_of regs) (capped d) o ≡ j.has_bit (number_of d) (j.reg_of regs (meaning_found o))
has_bit_at_is d regs few None = refl
has_bit_at_is d regs few (Some m.ClockOrReset) = refl
has_bit_at_is d regs few (Some (m.Input i)) = refl
has_bit_at_is d regs few (Some (m.Output i)) = refl
has_bit_at_is d regs few (Some (m.Wire i)) = refl
has_bit_at_is d regs few (Some (m.Reg i)) = has_bit_is d (slice_get regs i) _ (get_map register_of regs i) (get_none register_of regs i) (few i)

operand_logic : (o : Option source.Meaning) → k.operand_at o ≡ j.operand (meaning_found o)
operand_logic None = refl
operand_logic (Some m.ClockOrReset) = refl
operand_logic (Some (m.Input i)) = refl
operand_logic (Some (m.Output i)) = refl
operand_logic (Some (m.Wire i)) = refl
operand_logic (Some (m.Reg i)) = refl

bit_logic : (n : ℕ) (o : Option source.Meaning) → k.bit_at o n ≡ j.bit_operand (meaning_found o) n
bit_logic n None = refl
bit_logic n (Some m.ClockOrReset) = refl
bit_logic n (Some (m.Input i)) = refl
bit_logic n (Some (m.Output i)) = refl
bit_logic n (Some (m.Wire i)) = refl
bit_logic n (Some (m.Reg i)) = refl

-- the number of a bit that the register has is small
small_bit : (x : SoFar) → IsSound x → (d : List ℕ) (o : Option Meaning) → ((r : ℕ) → o ≡ Some (RegAt r) → r < length x.regs) → j.is_reg o ≡ true → j.has_bit (number_of d) (j.reg_of x.regs o) ≡ true → number_of d ≤ 65536
small_bit x s d None p e h = absurd cc
small_bit x s d (Some ClockOrReset) p e h = absurd cc
small_bit x s d (Some (InputAt i)) p e h = absurd cc
small_bit x s d (Some (OutputAt i)) p e h = absurd cc
small_bit x s d (Some (WireAt i)) p e h = absurd cc
small_bit x s d (Some (RegAt r)) p e h =
    let g = get_within x.regs r (p r refl) in
    let few = (s.regs r g.0 g.1).few_bits in
    let a = and_parts (ltb 1 g.0.width) (ltb (number_of d) g.0.width) (sym (ap (λ (o : Option Declared). j.has_bit (number_of d) o) g.1) ∙ h) in
    let b = lower (number_of d) g.0.width a.1 in
    omega (arith, b, few) where
      lower : (n w : ℕ) → ltb n w ≡ true → n < w
      lower n w e = elim (cases_lt n w) [ inl lt ↦ lt | inr le ↦ absurd (let f : true ≡ false = sym e ∙ le-ltb n w le in cc) ]

module _ (find : List ℕ → Option source.Meaning) (x : SoFar) (s : IsSound x) (h : (t : List ℕ) → meaning_found (find t) ≡ found t x.entries) where
  pub given_is : (flags : List Bool) → AreFlags flags (length x.wires) (λ w. is_given x.assigns (target.Wire w)) → (e : Expression) → given_by find flags e ≡ j.are_given x e
  given_is flags f Low = refl
  given_is flags f High = refl
  given_is flags f (Name t) = flag_is flags x f (find t) (λ i e. s.places t (WireAt i) (sym (h t) ∙ e)) ∙ ap (j.is_given_wire x.assigns) (h t)
  given_is flags f (Bit t d) = refl
  given_is flags f (Not a) = given_is flags f a
  given_is flags f (Group a) = given_is flags f a
  given_is flags f (And a b) = λ i. given_is flags f a i && given_is flags f b i
  given_is flags f (Or a b) = λ i. given_is flags f a i && given_is flags f b i

  pub fits_is : (e : Expression) → fits_by find (map register_of x.regs) e ≡ j.fits_widths x e
  fits_is Low = refl
  fits_is High = refl
  fits_is (Name t) = one_bit_at_is x.regs (find t) ∙ ap (λ (o : Option Meaning). j.is_one_bit (j.reg_of x.regs o)) (h t)
  fits_is (Bit t d) = has_bit_at_is d x.regs (λ i r e. (s.regs i r e).few_bits) (find t) ∙ ap (λ (o : Option Meaning). j.has_bit (number_of d) (j.reg_of x.regs o)) (h t)
  fits_is (Not a) = fits_is a
  fits_is (Group a) = fits_is a
  fits_is (And a b) = λ i. fits_is a i && fits_is b i
  fits_is (Or a b) = λ i. fits_is a i && fits_is b i

  pub resolved_is : (e : Expression) → j.knows x.entries e ≡ true → j.fits_widths x e ≡ true → resolved_by find e ≡ j.resolved x.entries e
  resolved_is Low p q = refl
  resolved_is High p q = refl
  resolved_is (Name t) p q = operand_logic (find t) ∙ ap j.operand (h t)
  resolved_is (Bit t d) p q =
      let b = small_bit x s d (found t x.entries) (λ r e. s.places t (RegAt r) e) p q in
      let n : capped d ≡ number_of d = omega (arith, b) in
      bit_logic (capped d) (find t) ∙ (λ i. j.bit_operand (h t i) (n i))
  resolved_is (Not a) p q = λ i. c.Not (resolved_is a p q i)
  resolved_is (Group a) p q = resolved_is a p q
  resolved_is (And a b) p q =
      let f = and_parts (j.knows x.entries a) (j.knows x.entries b) p in let g = and_parts (j.fits_widths x a) (j.fits_widths x b) q in
      λ i. c.And (resolved_is a f.0 g.0 i) (resolved_is b f.1 g.1 i)
  resolved_is (Or a b) p q =
      let f = and_parts (j.knows x.entries a) (j.knows x.entries b) p in let g = and_parts (j.fits_widths x a) (j.fits_widths x b) q in
      λ i. c.Or (resolved_is a f.0 g.0 i) (resolved_is b f.1 g.1 i)
