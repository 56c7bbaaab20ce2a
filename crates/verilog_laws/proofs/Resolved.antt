-- What the rules say of the expression that a written one is.
use Rattle.std.proofs.Common.{◌≡◌, ℕ, ◌<◌, Bool, true, false, ◌||◌, eqb, ltb, List, Option, Some, None, refl, sym, ap, ◌∙◌, arith, inl, inr, ◌⊎◌}
use Rattle.std.proofs.lemmas.Bool.{and_parts, cases_lt, le-ltb}
use Rattle.circuit.specs.declared.bit.Target.TheVariants as target
use Rattle.circuit.specs.Circuit.{Assignment, names_wire}
use Rattle.circuit.specs.Valid.{IsInRange}
use Rattle.verilog_text.specs.Grammar.{Expression, Low, High, Name, Bit, Not, Group, And, Or}
use Rattle.verilog_text.specs.Judging as j
use Rattle.verilog_text.specs.Judging.{SoFar, Declared, Meaning, ClockOrReset, InputAt, OutputAt, WireAt, RegAt, found, number_of, is_given, module_of}
use Rattle.verilog_laws.specs.Sound.{HasPlace, IsSound}
use Rattle.verilog_laws.proofs.Places.{get_within}
use Rattle.verilog_laws.proofs.Growing.{has_bit_of}

one_bit_in_range : (x : SoFar) → IsSound x → (o : Option Meaning) → ((m : Meaning) → o ≡ Some m → HasPlace x m) → j.is_one_bit (j.reg_of x.regs o) ≡ true → IsInRange (module_of x) (j.operand o)
one_bit_in_range x s None p h = tt
one_bit_in_range x s (Some ClockOrReset) p h = tt
one_bit_in_range x s (Some (InputAt i)) p h = p (InputAt i) refl
one_bit_in_range x s (Some (OutputAt i)) p h = tt
one_bit_in_range x s (Some (WireAt i)) p h = p (WireAt i) refl
one_bit_in_range x s (Some (RegAt r)) p h =
    let g = get_within x.regs r (p (RegAt r) refl) in
    let w = (s.regs r g.0 g.1).some_bit in
    has_bit_of x.regs r g.0 0 g.1 (omega (arith, w))

bit_in_range : (x : SoFar) → IsSound x → (n : ℕ) (o : Option Meaning) → ((m : Meaning) → o ≡ Some m → HasPlace x m) → j.has_bit n (j.reg_of x.regs o) ≡ true → IsInRange (module_of x) (j.bit_operand o n)
bit_in_range x s n None p h = tt
bit_in_range x s n (Some ClockOrReset) p h = tt
bit_in_range x s n (Some (InputAt i)) p h = tt
bit_in_range x s n (Some (OutputAt i)) p h = tt
bit_in_range x s n (Some (WireAt i)) p h = tt
bit_in_range x s n (Some (RegAt r)) p h =
    let g = get_within x.regs r (p (RegAt r) refl) in
    let a = and_parts (ltb 1 g.0.width) (ltb n g.0.width) (sym (ap (λ (o : Option Declared). j.has_bit n o) g.1) ∙ h) in
    has_bit_of x.regs r g.0 n g.1 (lower n g.0.width a.1) where
      lower : (n w : ℕ) → ltb n w ≡ true → n < w
      lower n w e = elim (cases_lt n w) [ inl lt ↦ lt | inr le ↦ absurd (let f : true ≡ false = sym e ∙ le-ltb n w le in cc) ]

module _ (x : SoFar) (s : IsSound x) where
  pub resolved_in_range : (e : Expression) → j.fits_widths x e ≡ true → IsInRange (module_of x) (j.resolved x.entries e)
  resolved_in_range Low q = tt
  resolved_in_range High q = tt
  resolved_in_range (Name t) q = one_bit_in_range x s (found t x.entries) (λ m e. s.places t m e) q
  resolved_in_range (Bit t d) q = bit_in_range x s (number_of d) (found t x.entries) (λ m e. s.places t m e) q
  resolved_in_range (Not a) q = resolved_in_range a q
  resolved_in_range (Group a) q = resolved_in_range a q
  resolved_in_range (And a b) q = let g = and_parts (j.fits_widths x a) (j.fits_widths x b) q in (resolved_in_range a g.0, resolved_in_range b g.1)
  resolved_in_range (Or a b) q = let g = and_parts (j.fits_widths x a) (j.fits_widths x b) q in (resolved_in_range a g.0, resolved_in_range b g.1)

operand_given : (given : List Assignment) (w : ℕ) (o : Option Meaning) → j.is_given_wire given o ≡ true → names_wire (j.operand o) w ≡ true → is_given given (target.Wire w) ≡ true
operand_given given w None h e = absurd cc
operand_given given w (Some ClockOrReset) h e = absurd cc
operand_given given w (Some (InputAt i)) h e = absurd cc
operand_given given w (Some (OutputAt i)) h e = absurd cc
operand_given given w (Some (WireAt i)) h e = let s : w ≡ i = eq w i e in ap (λ (n : ℕ). is_given given (target.Wire n)) s ∙ h where
  eq : (a b : ℕ) → eqb a b ≡ true → a ≡ b
  eq a b e = grind arith
operand_given given w (Some (RegAt i)) h e = absurd cc

bit_given : (w n : ℕ) (o : Option Meaning) → names_wire (j.bit_operand o n) w ≡ true → ⊥
bit_given w n None e = cc
bit_given w n (Some ClockOrReset) e = cc
bit_given w n (Some (InputAt i)) e = cc
bit_given w n (Some (OutputAt i)) e = cc
bit_given w n (Some (WireAt i)) e = cc
bit_given w n (Some (RegAt i)) e = cc

either_names : (a b : Bool) → (a || b) ≡ true → (a ≡ true) ⊎ (b ≡ true)
either_names true b e = inl refl
either_names false b e = inr e

pub named_given : (x : SoFar) (w : ℕ) (e : Expression) → j.are_given x e ≡ true → names_wire (j.resolved x.entries e) w ≡ true → is_given x.assigns (target.Wire w) ≡ true
named_given x w Low h e = absurd cc
named_given x w High h e = absurd cc
named_given x w (Name t) h e = operand_given x.assigns w (found t x.entries) h e
named_given x w (Bit t d) h e = absurd (bit_given w (number_of d) (found t x.entries) e)
named_given x w (Not a) h e = named_given x w a h e
named_given x w (Group a) h e = named_given x w a h e
named_given x w (And a b) h e =
    let g = and_parts (j.are_given x a) (j.are_given x b) h in
    elim (either_names (names_wire (j.resolved x.entries a) w) (names_wire (j.resolved x.entries b) w) e) [ inl p ↦ named_given x w a g.0 p | inr p ↦ named_given x w b g.1 p ]
named_given x w (Or a b) h e =
    let g = and_parts (j.are_given x a) (j.are_given x b) h in
    elim (either_names (names_wire (j.resolved x.entries a) w) (names_wire (j.resolved x.entries b) w) e) [ inl p ↦ named_given x w a g.0 p | inr p ↦ named_given x w b g.1 p ]
