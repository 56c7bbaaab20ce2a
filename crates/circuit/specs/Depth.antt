-- How deep expressions are nested, where each operand that is itself an `&` or an `|` is in parentheses.
use Rattle.std.specs.Prelude.{ℕ, suc, max, ◌≤◌, Bool, true, false, All}
use Rattle.circuit.specs.Circuit.{Logic, Zero, One, Input, Wire, Reg, Not, And, Or, Circuit}

-- whether an expression is put in parentheses where it is an operand: it is itself an `&` or an `|`
abbrev pub is_compound : Logic → Bool
is_compound (And x y) = true
is_compound (Or x y) = true
is_compound _ = false

-- how deep an operand is nested, by whether it is in parentheses
abbrev pub operand_depth : Bool → ℕ → ℕ
operand_depth false n = n
operand_depth true n = suc n

-- how many `~` and `(` are nested in an expression, at most
abbrev pub depth : Logic → ℕ
depth Zero = 0
depth One = 0
depth (Input i) = 0
depth (Wire w) = 0
depth (Reg r k) = 0
depth (Not x) = suc (operand_depth (is_compound x) (depth x))
depth (And x y) = max (operand_depth (is_compound x) (depth x)) (operand_depth (is_compound y) (depth y))
depth (Or x y) = max (operand_depth (is_compound x) (depth x)) (operand_depth (is_compound y) (depth y))

-- a module in whose expressions at most 64 `~` and `(` are nested
pub record IsShallow (m : Circuit) : Type 0 where
  pub assigns : All (λ a. depth a.bit ≤ 64) m.assigns
  pub regs : All (λ r. depth r.next ≤ 64) m.regs
