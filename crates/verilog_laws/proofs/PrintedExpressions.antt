-- The words of a printed expression, and that it is one that a statement may have.
use Rattle.std.proofs.Common.{◌≡◌, ℕ, suc, ◌≤◌, max, Bool, true, false, cond, List, [], ◌∷◌, ◌++◌, Option, Some, None, refl, sym, ap, subst, ◌∙◌, arith, append_assoc, eqb}
use Rattle.std.specs.Prelude.{codes, decimal, slice_get}
use Rattle.rl_text.specs.Names.{is_verilog_name}
use Rattle.rl_text.specs.Lines.{Word}
use Rattle.circuit.specs.Circuit as c
use Rattle.circuit.specs.Circuit.{Logic, Register, Circuit}
use Rattle.circuit.specs.Names.{in_name, is_port_name, is_own_name}
use Rattle.verilog_text.specs.Text.{name_text, register_bit_text, in_parentheses, logic_text}
use Rattle.circuit.specs.Valid.{HasBit, IsInRange}
use Rattle.verilog_text.specs.Grammar.{Expression, Name, Bit, name, number, sign, open_, close, spelled, is_unary, is_product, factors, terms, nesting, IsWritten, IsExpression}
use Rattle.verilog_laws.proofs.Printed.{printed_bit, grouped, printed}
use Rattle.circuit.specs.Depth.{is_compound, operand_depth, depth}
use Rattle.verilog_laws.proofs.PrintedPieces.{Reads, stops, reads_name, reads_number, reads_bits, reads_open, reads_close, reads_left, reads_right, reads_not, reads_and, reads_or, reads_space}
use Rattle.verilog_laws.proofs.PrintedDigits.{decimal_is}
use Rattle.verilog_laws.proofs.PrintedNames.{some_at, passes_at, input_is_name, own_is_name, is_register, IsPrintable, IsRegister, register_is}

-- in front of a text that doesn't go on with it, the text reads as these words in front of the other's
abbrev pub ReadsOn : List ℕ → List Word → Type 0
ReadsOn text vs = (rest : List ℕ) (ws : List Word) → stops rest ≡ true → Reads rest ws → Reads (text ++ rest) (vs ++ ws)

name_on : (t : List ℕ) → is_verilog_name t ≡ true → ReadsOn t (name t ∷ [])
name_on t h rest ws s r = reads_name t h s r

group_on : (b : Bool) (t : List ℕ) (e : Expression) → ReadsOn t (spelled e) → ReadsOn (in_parentheses b t) (spelled (grouped b e))
group_on false t e f = f
group_on true t e f = λ rest ws s r.
    let all = reads_open (f (41 ∷ rest) (close ∷ ws) refl (reads_close r)) in
    subst (λ (x : List ℕ). Reads (40 ∷ x) (((open_ ∷ spelled e) ++ close ∷ []) ++ ws)) (sym (append_assoc t (41 ∷ []) rest))
    (subst (λ (x : List Word). Reads (40 ∷ (t ++ (41 ∷ rest))) (open_ ∷ x)) (sym (append_assoc (spelled e) (close ∷ []) ws)) all)

and_on : (s t : List ℕ) (a b : List Word) → ReadsOn s a → ReadsOn t b → ReadsOn ((s ++ codes " & ") ++ t) (a ++ sign (codes "&") ∷ b)
and_on s t a b f g rest ws st r =
    let all = f (32 ∷ 38 ∷ 32 ∷ (t ++ rest)) (sign (codes "&") ∷ (b ++ ws)) refl (reads_space (reads_and (reads_space (g rest ws st r)))) in
    let bytes : ((s ++ codes " & ") ++ t) ++ rest ≡ s ++ (32 ∷ 38 ∷ 32 ∷ (t ++ rest)) = simp append_assoc in
    subst (λ (x : List ℕ). Reads x ((a ++ sign (codes "&") ∷ b) ++ ws)) (sym bytes)
    (subst (λ (x : List Word). Reads (s ++ (32 ∷ 38 ∷ 32 ∷ (t ++ rest))) x) (sym (append_assoc a (sign (codes "&") ∷ b) ws)) all)

or_on : (s t : List ℕ) (a b : List Word) → ReadsOn s a → ReadsOn t b → ReadsOn ((s ++ codes " | ") ++ t) (a ++ sign (codes "|") ∷ b)
or_on s t a b f g rest ws st r =
    let all = f (32 ∷ 124 ∷ 32 ∷ (t ++ rest)) (sign (codes "|") ∷ (b ++ ws)) refl (reads_space (reads_or (reads_space (g rest ws st r)))) in
    let bytes : ((s ++ codes " | ") ++ t) ++ rest ≡ s ++ (32 ∷ 124 ∷ 32 ∷ (t ++ rest)) = simp append_assoc in
    subst (λ (x : List ℕ). Reads x ((a ++ sign (codes "|") ∷ b) ++ ws)) (sym bytes)
    (subst (λ (x : List Word). Reads (s ++ (32 ∷ 124 ∷ 32 ∷ (t ++ rest))) x) (sym (append_assoc a (sign (codes "|") ∷ b) ws)) all)

bit_on : (b : Bool) (t : List ℕ) (k : ℕ) → is_verilog_name t ≡ true → k ≤ 1000000
    → ReadsOn (cond b t (((t ++ codes "[") ++ decimal k) ++ codes "]")) (spelled (cond b (Name t) (Bit t (decimal k))))
bit_on true t k h low = name_on t h
bit_on false t k h low = λ rest ws s r.
    let all = reads_name t h refl (reads_left (reads_number (decimal k) 93 (decimal_is k low).number refl (reads_right r))) in
    let bytes : (((t ++ codes "[") ++ decimal k) ++ codes "]") ++ rest ≡ t ++ (91 ∷ (decimal k ++ (93 ∷ rest))) = simp append_assoc in
    subst (λ (x : List ℕ). Reads x (name t ∷ sign (codes "[") ∷ number (decimal k) ∷ sign (codes "]") ∷ ws)) (sym bytes) all

-- bits of registers have few enough bits that they can be written
pub bit_below : (o : Option Register) (k : ℕ) → ((r : Register) → o ≡ Some r → is_register r ≡ true) → HasBit o k → (r : Register) × (o ≡ Some r) × IsRegister r × (k ≤ 1000000)
bit_below None k f h = absurd h
bit_below (Some r) k f h = let is = register_is r (f r refl) in let few = is.few in (r, refl, is, omega (arith, h, few))

reg_on : (o : Option Register) (k : ℕ) → ((r : Register) → o ≡ Some r → is_register r ≡ true) → HasBit o k → ReadsOn (register_bit_text o k) (spelled (printed_bit o k))
reg_on o k f h =
    let b = bit_below o k f h in
    subst (λ (p : Option Register). ReadsOn (register_bit_text p k) (spelled (printed_bit p k))) (sym b.1) (bit_on (eqb b.0.width 1) b.0.name k b.2.word b.3)

pub reads_expression : (m : Circuit) → IsPrintable m → (x : Logic) → IsInRange m x → ReadsOn (logic_text m x) (spelled (printed m x))
reads_expression m p c.Zero h = λ rest ws s r. reads_bits (codes "1") 48 refl refl s r
reads_expression m p c.One h = λ rest ws s r. reads_bits (codes "1") 49 refl refl s r
reads_expression m p (c.Input i) h =
    let a = some_at is_port_name m.inputs i p.inputs h in
    subst (λ (o : Option (List ℕ)). ReadsOn (in_name (name_text o)) (spelled (Name (in_name (name_text o))))) (sym a.1) (name_on (in_name a.0) (input_is_name a.0 a.2))
reads_expression m p (c.Wire w) h =
    let a = some_at is_own_name m.wires w p.wires h in
    subst (λ (o : Option (List ℕ)). ReadsOn (name_text o) (spelled (Name (name_text o)))) (sym a.1) (name_on a.0 (own_is_name a.0 a.2))
reads_expression m p (c.Reg r k) h = reg_on (slice_get m.regs r) k (λ g e. passes_at is_register m.regs r g p.regs e) h
reads_expression m p (c.Not x) h = λ rest ws s r. reads_not (group_on (is_compound x) (logic_text m x) (printed m x) (reads_expression m p x h) rest ws s r)
reads_expression m p (c.And x y) h =
    and_on (in_parentheses (is_compound x) (logic_text m x)) (in_parentheses (is_compound y) (logic_text m y)) (spelled (grouped (is_compound x) (printed m x))) (spelled (grouped (is_compound y) (printed m y)))
    (group_on (is_compound x) (logic_text m x) (printed m x) (reads_expression m p x h.0)) (group_on (is_compound y) (logic_text m y) (printed m y) (reads_expression m p y h.1))
reads_expression m p (c.Or x y) h =
    or_on (in_parentheses (is_compound x) (logic_text m x)) (in_parentheses (is_compound y) (logic_text m y)) (spelled (grouped (is_compound x) (printed m x))) (spelled (grouped (is_compound y) (printed m y)))
    (group_on (is_compound x) (logic_text m x) (printed m x) (reads_expression m p x h.0)) (group_on (is_compound y) (logic_text m y) (printed m y) (reads_expression m p y h.1))

-- ---- what a printed expression is

-- an operand is no chain
record IsOperand (e : Expression) : Type 0 where
  unary : is_unary e ≡ true
  product : is_product e ≡ true
  one_factor : factors e ≡ 1
  one_term : terms e ≡ 1

bit_is_operand : (o : Option Register) (k : ℕ) → IsOperand (printed_bit o k)
bit_is_operand None k = record { unary = refl; product = refl; one_factor = refl; one_term = refl }
bit_is_operand (Some r) k = turn (eqb r.width 1) where
  turn : (b : Bool) → IsOperand (cond b (Name r.name) (Bit r.name (decimal k)))
  turn true = record { unary = refl; product = refl; one_factor = refl; one_term = refl }
  turn false = record { unary = refl; product = refl; one_factor = refl; one_term = refl }

is_operand : (m : Circuit) (x : Logic) → IsOperand (grouped (is_compound x) (printed m x))
is_operand m c.Zero = record { unary = refl; product = refl; one_factor = refl; one_term = refl }
is_operand m c.One = record { unary = refl; product = refl; one_factor = refl; one_term = refl }
is_operand m (c.Input i) = record { unary = refl; product = refl; one_factor = refl; one_term = refl }
is_operand m (c.Wire w) = record { unary = refl; product = refl; one_factor = refl; one_term = refl }
is_operand m (c.Reg r k) = bit_is_operand (slice_get m.regs r) k
is_operand m (c.Not x) = record { unary = refl; product = refl; one_factor = refl; one_term = refl }
is_operand m (c.And x y) = record { unary = refl; product = refl; one_factor = refl; one_term = refl }
is_operand m (c.Or x y) = record { unary = refl; product = refl; one_factor = refl; one_term = refl }

group_written : (b : Bool) (e : Expression) → IsWritten e → IsWritten (grouped b e)
group_written false e h = h
group_written true e h = h

bit_written : (b : Bool) (t : List ℕ) (k : ℕ) → k ≤ 1000000 → IsWritten (cond b (Name t) (Bit t (decimal k)))
bit_written true t k low = tt
bit_written false t k low = (decimal_is k low).plain

reg_written : (o : Option Register) (k : ℕ) → ((r : Register) → o ≡ Some r → is_register r ≡ true) → HasBit o k → IsWritten (printed_bit o k)
reg_written o k f h =
    let b = bit_below o k f h in
    subst (λ (p : Option Register). IsWritten (printed_bit p k)) (sym b.1) (bit_written (eqb b.0.width 1) b.0.name k b.3)

written : (m : Circuit) → IsPrintable m → (x : Logic) → IsInRange m x → IsWritten (printed m x)
written m p c.Zero h = tt
written m p c.One h = tt
written m p (c.Input i) h = tt
written m p (c.Wire w) h = tt
written m p (c.Reg r k) h = reg_written (slice_get m.regs r) k (λ g e. passes_at is_register m.regs r g p.regs e) h
written m p (c.Not x) h = (group_written (is_compound x) (printed m x) (written m p x h), (is_operand m x).unary)
written m p (c.And x y) h =
    let a = is_operand m x in
    let b = is_operand m y in
    let n : factors (grouped (is_compound x) (printed m x)) ≡ 1 = a.one_factor in
    (group_written (is_compound x) (printed m x) (written m p x h.0), a.product, group_written (is_compound y) (printed m y) (written m p y h.1), b.unary, omega (arith, n))
written m p (c.Or x y) h =
    let a = is_operand m x in
    let b = is_operand m y in
    let n : terms (grouped (is_compound x) (printed m x)) ≡ 1 = a.one_term in
    (group_written (is_compound x) (printed m x) (written m p x h.0), group_written (is_compound y) (printed m y) (written m p y h.1), b.product, omega (arith, n))

bit_nesting : (o : Option Register) (k : ℕ) → nesting (printed_bit o k) ≡ 0
bit_nesting None k = refl
bit_nesting (Some r) k = turn (eqb r.width 1) where
  turn : (b : Bool) → nesting (cond b (Name r.name) (Bit r.name (decimal k))) ≡ 0
  turn true = refl
  turn false = refl

group_nesting : (b : Bool) (e : Expression) → nesting (grouped b e) ≡ operand_depth b (nesting e)
group_nesting false e = refl
group_nesting true e = refl

nesting_is : (m : Circuit) (x : Logic) → nesting (printed m x) ≡ depth x
nesting_is m c.Zero = refl
nesting_is m c.One = refl
nesting_is m (c.Input i) = refl
nesting_is m (c.Wire w) = refl
nesting_is m (c.Reg r k) = bit_nesting (slice_get m.regs r) k
nesting_is m (c.Not x) = ap (λ (n : ℕ). suc n) (group_nesting (is_compound x) (printed m x) ∙ ap (operand_depth (is_compound x)) (nesting_is m x))
nesting_is m (c.And x y) = λ i. max ((group_nesting (is_compound x) (printed m x) ∙ ap (operand_depth (is_compound x)) (nesting_is m x)) i) ((group_nesting (is_compound y) (printed m y) ∙ ap (operand_depth (is_compound y)) (nesting_is m y)) i)
nesting_is m (c.Or x y) = λ i. max ((group_nesting (is_compound x) (printed m x) ∙ ap (operand_depth (is_compound x)) (nesting_is m x)) i) ((group_nesting (is_compound y) (printed m y) ∙ ap (operand_depth (is_compound y)) (nesting_is m y)) i)

pub is_expression : (m : Circuit) → IsPrintable m → (x : Logic) → IsInRange m x → depth x ≤ 64 → IsExpression (printed m x)
is_expression m p x h low = record { written = written m p x h; nested = let n = nesting_is m x in omega (arith, n, low) }
