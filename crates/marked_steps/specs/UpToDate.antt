-- Which expressions have the level that is stored for them.
use Rattle.std.specs.Prelude.{◌≡◌, ℕ, ◌+◌, Bool, List, length, replicate, slice_get, Some, ◌⊎◌}
use Rattle.circuit.specs.Circuit.{Assignment, Register, Circuit}
use Rattle.circuit.specs.Meaning.{State, level, at}
use Rattle.levels.specs.Marked.{IsMarked, IsUnmarked}
use Rattle.levels.specs.Operands.{Operand, value, Names}

-- each item that names the operand is marked
pub record AllMarked (m : Circuit) (words : List ℕ) (x : Operand) : Type 0 where
  pub assigns : (k : ℕ) (a : Assignment) → slice_get m.assigns k ≡ Some a → Names a.bit x → IsMarked words k
  pub regs : (r : ℕ) (q : Register) → slice_get m.regs r ≡ Some q → Names q.next x → IsMarked words (length m.assigns + r)

-- where the states differ, each item that names the operand is marked
pub record IsSeen (m : Circuit) (s s' : State) (words : List ℕ) : Type 0 where
  pub by : (x : Operand) → (value s x ≡ value s' x) ⊎ AllMarked m words x

-- an assign that isn't marked has its expression's level; a register that isn't marked holds its next level in each bit
pub record IsUpToDate (m : Circuit) (s : State) (words : List ℕ) : Type 0 where
  pub assigns : (k : ℕ) (a : Assignment) → slice_get m.assigns k ≡ Some a → IsUnmarked words k → at s a.target ≡ level s a.bit
  pub regs : (r : ℕ) (q : Register) (row : List Bool) → slice_get m.regs r ≡ Some q → slice_get s.regs r ≡ Some row →
      IsUnmarked words (length m.assigns + r) → row ≡ replicate q.width (level s q.next)
