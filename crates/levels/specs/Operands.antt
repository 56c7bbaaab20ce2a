-- What an expression's level depends on: the levels of the inputs, wires and register bits that it names.
use Rattle.std.specs.Prelude.{◌≡◌, ℕ, ◌+◌, Bool, false, List, [], length, slice_index_or, slice_get, Some, ◌⊎◌}
use Rattle.circuit.specs.Circuit as l
use Rattle.circuit.specs.Circuit.{Logic, Assignment, Register, Circuit}
use Rattle.circuit.specs.Meaning.{State}
use Rattle.levels.specs.Marked.{IsUnmarked}

-- an input, a wire, or bit k of register r
pub data Operand : Type 0 where
  Input : ℕ → Operand
  Wire : ℕ → Operand
  Bit : ℕ → ℕ → Operand

abbrev pub value : State → Operand → Bool
value s (Input i) = slice_index_or s.inputs i false
value s (Wire w) = slice_index_or s.wires w false
value s (Bit r k) = slice_index_or (slice_index_or s.regs r []) k false

-- the expression names the operand
abbrev pub Names : Logic → Operand → Type 0
Names l.Zero x = ⊥
Names l.One x = ⊥
Names (l.Input i) x = x ≡ Input i
Names (l.Wire w) x = x ≡ Wire w
Names (l.Reg r k) x = x ≡ Bit r k
Names (l.Not e) x = Names e x
Names (l.And e f) x = Names e x ⊎ Names f x
Names (l.Or e f) x = Names e x ⊎ Names f x

-- the place of an operand among all levels: inputs, wires, register bits; `starts` has each register's first bit
abbrev pub place : Circuit → List ℕ → Operand → ℕ
place m starts (Input i) = i
place m starts (Wire w) = length m.inputs + w
place m starts (Bit r k) = length m.inputs + length m.wires + slice_index_or starts r 0 + k

-- where a list of places begins with the inputs, and then has the wires
abbrev pub wire_place : Circuit → ℕ → ℕ
wire_place m w = length m.inputs + w

-- the numbers on the list of a place
abbrev pub list_at : List (List ℕ) → ℕ → List ℕ
list_at lists p = slice_index_or lists p []

-- a place that isn't in the set has nothing on its list
pub record HasTaps (lists : List (List ℕ)) (tapped : List ℕ) : Type 0 where
  pub by : (p : ℕ) → IsUnmarked tapped p → list_at lists p ≡ []

-- Items are the assigns, then the registers, each with its expression.
-- Each item is on the list of each operand that its expression names.
pub record AreReaders (m : Circuit) (starts : List ℕ) (lists : List (List ℕ)) : Type 0 where
  pub assigns : (k : ℕ) (a : Assignment) (x : Operand) → slice_get m.assigns k ≡ Some a → Names a.bit x →
      (j : ℕ) × (slice_get (slice_index_or lists (place m starts x) []) j ≡ Some k)
  pub regs : (r : ℕ) (q : Register) (x : Operand) → slice_get m.regs r ≡ Some q → Names q.next x →
      (j : ℕ) × (slice_get (slice_index_or lists (place m starts x) []) j ≡ Some (length m.assigns + r))
