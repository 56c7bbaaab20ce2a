-- What the names of a module in the making mean, as a reader looks them up, and what it finds out of an expression.
use Rattle.std.specs.Prelude.{◌≡◌, ℕ, ◌+◌, Bool, true, false, ◌&&◌, ◌==◌, nat_lt, min, List, Option, Some, None, slice_get, slice_index_or, if◌then◌else◌, bytes_eq}
use Rattle.verilog_read.specs.Scope.{Names, find}
use Rattle.verilog_read.specs.declared.scope.Meaning.{Meaning}
use Rattle.verilog_read.specs.declared.scope.Meaning.TheVariants as m
use Rattle.verilog_read.specs.declared.judged.Judged as source_judged
use Rattle.circuit.specs.View.{logic}
use Rattle.circuit.specs.Circuit as c
use Rattle.circuit.specs.Circuit.{Logic, Register}
use Rattle.verilog_text.specs.Grammar.{Expression, Low, High, Name, Bit, Not, Group, And, Or, Next, Whole, Shifted}
use Rattle.verilog_text.specs.Judging as j
use Rattle.verilog_text.specs.Judging.{number_of}

abbrev pub AddsName : Names → Names → List ℕ → Meaning → Type 0
AddsName old new name meaning = (t : List ℕ) → find new t ≡ (if bytes_eq name t then Some meaning else find old t)

abbrev pub meaning : Meaning → j.Meaning
meaning m.ClockOrReset = j.ClockOrReset
meaning (m.Input i) = j.InputAt i
meaning (m.Output o) = j.OutputAt o
meaning (m.Wire w) = j.WireAt w
meaning (m.Reg r) = j.RegAt r

abbrev pub meaning_found : Option Meaning → Option j.Meaning
meaning_found None = None
meaning_found (Some x) = Some (meaning x)

-- a number, as far as it matters
abbrev pub capped : List ℕ → ℕ
capped digits = min (number_of digits) 100000

abbrev pub is_operand : Option Meaning → Bool
is_operand (Some (m.Input i)) = true
is_operand (Some (m.Wire w)) = true
is_operand (Some (m.Reg r)) = true
is_operand _ = false

abbrev pub is_reg : Option Meaning → Bool
is_reg (Some (m.Reg r)) = true
is_reg _ = false

abbrev pub knows_by : (List ℕ → Option Meaning) → Expression → Bool
knows_by find Low = true
knows_by find High = true
knows_by find (Name t) = is_operand (find t)
knows_by find (Bit t k) = is_reg (find t)
knows_by find (Not a) = knows_by find a
knows_by find (Group a) = knows_by find a
knows_by find (And a b) = knows_by find a && knows_by find b
knows_by find (Or a b) = knows_by find a && knows_by find b

abbrev pub is_flagged : List Bool → Option Meaning → Bool
is_flagged flags (Some (m.Wire w)) = slice_index_or flags w false
is_flagged flags _ = true

abbrev pub given_by : (List ℕ → Option Meaning) → List Bool → Expression → Bool
given_by find flags Low = true
given_by find flags High = true
given_by find flags (Name t) = is_flagged flags (find t)
given_by find flags (Bit t k) = true
given_by find flags (Not a) = given_by find flags a
given_by find flags (Group a) = given_by find flags a
given_by find flags (And a b) = given_by find flags a && given_by find flags b
given_by find flags (Or a b) = given_by find flags a && given_by find flags b

abbrev pub is_one_bit_reg : Option Register → Bool
is_one_bit_reg None = true
is_one_bit_reg (Some r) = r.width == 1

abbrev pub has_bit_reg : ℕ → Option Register → Bool
has_bit_reg k None = true
has_bit_reg k (Some r) = nat_lt 1 r.width && nat_lt k r.width

abbrev pub is_one_bit_at : List Register → Option Meaning → Bool
is_one_bit_at regs (Some (m.Reg r)) = is_one_bit_reg (slice_get regs r)
is_one_bit_at regs _ = true

abbrev pub has_bit_at : List Register → ℕ → Option Meaning → Bool
has_bit_at regs k (Some (m.Reg r)) = has_bit_reg k (slice_get regs r)
has_bit_at regs k _ = true

abbrev pub fits_by : (List ℕ → Option Meaning) → List Register → Expression → Bool
fits_by find regs Low = true
fits_by find regs High = true
fits_by find regs (Name t) = is_one_bit_at regs (find t)
fits_by find regs (Bit t k) = has_bit_at regs (capped k) (find t)
fits_by find regs (Not a) = fits_by find regs a
fits_by find regs (Group a) = fits_by find regs a
fits_by find regs (And a b) = fits_by find regs a && fits_by find regs b
fits_by find regs (Or a b) = fits_by find regs a && fits_by find regs b

abbrev pub operand_at : Option Meaning → Logic
operand_at (Some (m.Input i)) = c.Input i
operand_at (Some (m.Wire w)) = c.Wire w
operand_at (Some (m.Reg r)) = c.Reg r 0
operand_at _ = c.Zero

abbrev pub bit_at : Option Meaning → ℕ → Logic
bit_at (Some (m.Reg r)) k = c.Reg r k
bit_at _ k = c.Zero

abbrev pub resolved_by : (List ℕ → Option Meaning) → Expression → Logic
resolved_by find Low = c.Zero
resolved_by find High = c.One
resolved_by find (Name t) = operand_at (find t)
resolved_by find (Bit t k) = bit_at (find t) (capped k)
resolved_by find (Not a) = c.Not (resolved_by find a)
resolved_by find (Group a) = resolved_by find a
resolved_by find (And a b) = c.And (resolved_by find a) (resolved_by find b)
resolved_by find (Or a b) = c.Or (resolved_by find a) (resolved_by find b)

-- how many bits a register has, by the last bit of its range, as far as it matters
abbrev pub capped_width : Option (List ℕ) → ℕ
capped_width None = 1
capped_width (Some digits) = capped digits + 1

-- the flag of the register that a name means
abbrev pub is_flagged_reg : List Bool → Option Meaning → Bool
is_flagged_reg flags (Some (m.Reg r)) = slice_index_or flags r false
is_flagged_reg flags _ = false

-- the name that a shift begins with means a register
abbrev pub names_reg_by : (List ℕ → Option Meaning) → Next → Bool
names_reg_by find (Whole e) = true
names_reg_by find (Shifted r k e) = is_reg (find r)

-- the range of a register has only one bit
abbrev pub narrow : Option (List ℕ) → Bool
narrow None = false
narrow (Some digits) = capped digits == 0

-- all of this is found out of an expression
pub record IsJudged (find : List ℕ → Option Meaning) (flags : List Bool) (regs : List Register) (e : Expression) (x : source_judged.Judged) : Type 0 where
  pub bit : logic x.bit ≡ resolved_by find e
  pub known : x.findings.known ≡ knows_by find e
  pub given : x.findings.given ≡ given_by find flags e
  pub fits : x.findings.fits ≡ fits_by find regs e
