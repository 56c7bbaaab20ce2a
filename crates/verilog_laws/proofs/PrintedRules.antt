-- What is printed means what it was, and keeps the rules of expressions.
use Rattle.std.proofs.Common.{◌≡◌, ℕ, ◌≤◌, ◌<◌, Bool, true, false, cond, ◌&&◌, List, Option, Some, refl, sym, ap, subst, ◌∙◌, arith, eqb}
use Rattle.std.specs.Prelude.{decimal, slice_get, nat_lt}
use Rattle.std.proofs.lemmas.Bool.{and_from, or_left, or_right, eqb-true}
use Rattle.std.proofs.lemmas.Bool.Decides.{nat_tests}
use Rattle.circuit.specs.declared.bit.Target.TheVariants as target
use Rattle.circuit.specs.Circuit as c
use Rattle.circuit.specs.Circuit.{Logic, Register, Circuit, names_wire}
use Rattle.circuit.specs.Names.{in_name, is_port_name, is_own_name}
use Rattle.verilog_text.specs.Text.{name_text}
use Rattle.circuit.specs.Depth.{is_compound}
use Rattle.circuit.specs.Valid.{HasBit, IsInRange}
use Rattle.verilog_text.specs.Grammar.{Expression, Name, Bit}
use Rattle.verilog_text.specs.Judging.{Meaning, InputAt, WireAt, RegAt, Declared, SoFar, found, number_of, operand, bit_operand, resolved, is_reg, is_operand, knows, is_given, is_given_wire, are_given, reg_of, is_one_bit, has_bit, fits_widths}
use Rattle.verilog_laws.proofs.Printed.{printed_bit, grouped, printed}
use Rattle.verilog_laws.proofs.PrintedDigits.{decimal_is}
use Rattle.verilog_laws.proofs.PrintedNames.{some_at, passes_at, is_register, IsPrintable}
use Rattle.verilog_laws.proofs.PrintedExpressions.{bit_below}
use Rattle.verilog_laws.proofs.PrintedEntries.{IsScope}

-- each register of the module is declared at its place, with its width
abbrev pub SameWidths : Circuit → List Declared → Type 0
SameWidths m ds = (k : ℕ) (g : Register) → slice_get m.regs k ≡ Some g → (d : Declared) × (slice_get ds k ≡ Some d) × (d.width ≡ g.width)

-- all of the module is declared
pub record IsDeclared (m : Circuit) (x : SoFar) : Type 0 where
  pub scope : IsScope m x.entries
  pub widths : SameWidths m x.regs

-- the written expression is this one and keeps all rules, where the wires that it names are given
pub record IsRight (x : SoFar) (e : Logic) (w : Expression) : Type 0 where
  pub resolved : resolved x.entries w ≡ e
  pub known : knows x.entries w ≡ true
  pub fits : fits_widths x w ≡ true
  pub given : ((v : ℕ) → names_wire e v ≡ true → is_given x.assigns (target.Wire v) ≡ true) → are_given x w ≡ true

group_right : (x : SoFar) (e : Logic) (b : Bool) (w : Expression) → IsRight x e w → IsRight x e (grouped b w)
group_right x e false w r = r
group_right x e true w r = record { resolved = r.resolved; known = r.known; fits = r.fits; given = r.given }

pub eqb_self : (n : ℕ) → eqb n n ≡ true
eqb_self n = grind (arith, nat_tests)

input_right : (x : SoFar) (n : List ℕ) (i : ℕ) → found n x.entries ≡ Some (InputAt i) → IsRight x (c.Input i) (Name n)
input_right x n i f = record {
  resolved = ap operand f;
  known = ap is_operand f;
  fits = ap (λ (v : Option Meaning). is_one_bit (reg_of x.regs v)) f;
  given = λ _. ap (is_given_wire x.assigns) f;
}

wire_right : (x : SoFar) (n : List ℕ) (w : ℕ) → found n x.entries ≡ Some (WireAt w) → IsRight x (c.Wire w) (Name n)
wire_right x n w f = record {
  resolved = ap operand f;
  known = ap is_operand f;
  fits = ap (λ (v : Option Meaning). is_one_bit (reg_of x.regs v)) f;
  given = λ h. ap (is_given_wire x.assigns) f ∙ h w (eqb_self w);
}

lt_from : (i k : ℕ) → i < k → nat_lt i k ≡ true
lt_from i k h = grind (arith, nat_tests)

not_one : (n k : ℕ) → k < n → eqb n 1 ≡ false → 1 < n
not_one n k l h = grind (arith, nat_tests)

reg_right : (x : SoFar) (g : Register) (r k : ℕ) (d : Declared) (b : Bool) → eqb g.width 1 ≡ b → found g.name x.entries ≡ Some (RegAt r) → slice_get x.regs r ≡ Some d → d.width ≡ g.width → k < g.width → k ≤ 1000000
    → IsRight x (c.Reg r k) (cond b (Name g.name) (Bit g.name (decimal k)))
reg_right x g r k d true one f at same low few =
    let w : g.width ≡ 1 = eqb-true g.width 1 one in
    let z : 0 ≡ k = omega (arith, w, low) in
    record {
      resolved = ap operand f ∙ ap (λ (j : ℕ). c.Reg r j) z;
      known = ap is_operand f;
      fits = ap (λ (v : Option Meaning). is_one_bit (reg_of x.regs v)) f ∙ ap is_one_bit at ∙ ap (λ (n : ℕ). eqb n 1) (same ∙ w);
      given = λ _. ap (is_given_wire x.assigns) f;
    }
reg_right x g r k d false one f at same low few =
    let value = (decimal_is k few).value in
    let more : 1 < d.width = subst (λ (n : ℕ). 1 < n) (sym same) (not_one g.width k low one) in
    let inside : k < d.width = subst (λ (n : ℕ). k < n) (sym same) low in
    record {
      resolved = ap (λ (v : Option Meaning). bit_operand v (number_of (decimal k))) f ∙ ap (λ (j : ℕ). c.Reg r j) value;
      known = ap is_reg f;
      fits = ap (λ (v : Option Meaning). has_bit (number_of (decimal k)) (reg_of x.regs v)) f ∙ ap (has_bit (number_of (decimal k))) at ∙ ap (λ (j : ℕ). nat_lt 1 d.width && nat_lt j d.width) value
          ∙ and_from (nat_lt 1 d.width) (nat_lt k d.width) (lt_from 1 d.width more) (lt_from k d.width inside);
      given = λ _. refl;
    }

bit_right : (m : Circuit) (x : SoFar) (r k : ℕ) → IsPrintable m → IsDeclared m x → HasBit (slice_get m.regs r) k → IsRight x (c.Reg r k) (printed_bit (slice_get m.regs r) k)
bit_right m x r k p s h =
    let b = bit_below (slice_get m.regs r) k (λ g e. passes_at is_register m.regs r g p.regs e) h in
    let low : k < b.0.width = subst (λ (o : Option Register). HasBit o k) b.1 h in
    let d = s.widths r b.0 b.1 in
    subst (λ (o : Option Register). IsRight x (c.Reg r k) (printed_bit o k)) (sym b.1) (reg_right x b.0 r k d.0 (eqb b.0.width 1) refl (s.scope.reg r b.0 b.1) d.1 d.2 low b.3)

pub right : (m : Circuit) (x : SoFar) → IsPrintable m → IsDeclared m x → (e : Logic) → IsInRange m e → IsRight x e (printed m e)
right m x p s c.Zero h = record { resolved = refl; known = refl; fits = refl; given = λ _. refl }
right m x p s c.One h = record { resolved = refl; known = refl; fits = refl; given = λ _. refl }
right m x p s (c.Input i) h =
    let a = some_at is_port_name m.inputs i p.inputs h in
    subst (λ (o : Option (List ℕ)). IsRight x (c.Input i) (Name (in_name (name_text o)))) (sym a.1) (input_right x (in_name a.0) i (s.scope.input i a.0 a.1))
right m x p s (c.Wire w) h =
    let a = some_at is_own_name m.wires w p.wires h in
    subst (λ (o : Option (List ℕ)). IsRight x (c.Wire w) (Name (name_text o))) (sym a.1) (wire_right x a.0 w (s.scope.wire w a.0 a.1))
right m x p s (c.Reg r k) h = bit_right m x r k p s h
right m x p s (c.Not a) h =
    let r = group_right x a (is_compound a) (printed m a) (right m x p s a h) in
    record { resolved = ap (λ (z : Logic). c.Not z) r.resolved; known = r.known; fits = r.fits; given = r.given }
right m x p s (c.And a b) h =
    let r = group_right x a (is_compound a) (printed m a) (right m x p s a h.0) in
    let t = group_right x b (is_compound b) (printed m b) (right m x p s b h.1) in
    record {
      resolved = λ i. c.And (r.resolved i) (t.resolved i);
      known = and_from _ _ r.known t.known;
      fits = and_from _ _ r.fits t.fits;
      given = λ f. and_from _ _ (r.given (λ v n. f v (or_left (names_wire a v) (names_wire b v) n))) (t.given (λ v n. f v (or_right (names_wire a v) (names_wire b v) n)));
    }
right m x p s (c.Or a b) h =
    let r = group_right x a (is_compound a) (printed m a) (right m x p s a h.0) in
    let t = group_right x b (is_compound b) (printed m b) (right m x p s b h.1) in
    record {
      resolved = λ i. c.Or (r.resolved i) (t.resolved i);
      known = and_from _ _ r.known t.known;
      fits = and_from _ _ r.fits t.fits;
      given = λ f. and_from _ _ (r.given (λ v n. f v (or_left (names_wire a v) (names_wire b v) n))) (t.given (λ v n. f v (or_right (names_wire a v) (names_wire b v) n)));
    }
