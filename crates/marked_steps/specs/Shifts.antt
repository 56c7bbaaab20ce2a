-- What a shift of a register changes, and what a clock edge in progress keeps.
use Rattle.std.specs.Prelude.{◌≡◌, ℕ, ◌+◌, ◌<◌, Bool, false, List, [], ◌∷◌, length, replicate, slice_get, slice_index_or, Some, ◌⊎◌}
use Rattle.circuit.specs.Circuit.{Register, Circuit}
use Rattle.circuit.specs.Meaning.{State, level, row_after}
use Rattle.levels.specs.Marked.{IsMarked, IsUnmarked, HasAll}
use Rattle.levels.specs.Operands.{Bit, place, list_at}
use Rattle.marked_steps.specs.UpToDate.{IsSeen}

-- the first bits stay as they are when the row takes this level
pub record StaysSame (first : Bool) (row : List Bool) (count : ℕ) : Type 0 where
  pub by : (j : ℕ) → j < count → j < length row → slice_index_or (first ∷ row) j false ≡ slice_index_or row j false

-- each of the first bits of a register stays as it is, or all that is on its list is marked
pub record AreSeen (m : Circuit) (starts : List ℕ) (lists : List (List ℕ)) (words : List ℕ) (reg : ℕ) (first : Bool) (row : List Bool) (count : ℕ) : Type 0 where
  pub by : (j : ℕ) → j < count → j < length row →
      (slice_index_or (first ∷ row) j false ≡ slice_index_or row j false) ⊎ HasAll words (list_at lists (place m starts (Bit reg j)))

-- A clock edge in progress, from state s0 and marks words0: registers in `moving` are as before the edge and wait with
-- their next levels in `firsts`, and the others are as after it.
pub record Edging (m : Circuit) (s0 s : State) (words0 words moving : List ℕ) (firsts : List Bool) : Type 0 where
  pub inputs : s.inputs ≡ s0.inputs
  pub wires : s.wires ≡ s0.wires
  pub outs : s.outs ≡ s0.outs
  pub count : length s.regs ≡ length m.regs
  pub seen : IsSeen m s0 s words
  pub assigns : (k : ℕ) → k < length m.assigns → IsUnmarked words k → IsUnmarked words0 k
  pub done : (r : ℕ) (q : Register) → slice_get m.regs r ≡ Some q → IsUnmarked moving r →
      slice_index_or s.regs r [] ≡ row_after s0 q (slice_index_or s0.regs r [])
  pub waits : (r : ℕ) → IsMarked moving r → slice_index_or s.regs r [] ≡ slice_index_or s0.regs r []
  pub quiet : (r : ℕ) (q : Register) → slice_get m.regs r ≡ Some q → IsUnmarked moving r → IsUnmarked words (length m.assigns + r) →
      slice_index_or s.regs r [] ≡ replicate q.width (level s0 q.next)
  pub next : (r : ℕ) (q : Register) → slice_get m.regs r ≡ Some q → IsMarked moving r → slice_index_or firsts r false ≡ level s0 q.next

-- the registers below a number have moved their marks
pub record Taking (m : Circuit) (s : State) (words0 words moving : List ℕ) (firsts : List Bool) (k : ℕ) : Type 0 where
  pub assigns : (i : ℕ) → i < length m.assigns → IsUnmarked words i → IsUnmarked words0 i
  pub later : (r : ℕ) → k < length m.assigns + r + 1 → IsUnmarked words (length m.assigns + r) → IsUnmarked words0 (length m.assigns + r)
  pub moved : (r : ℕ) → length m.assigns + r < k → IsUnmarked moving r → IsUnmarked words0 (length m.assigns + r)
  pub next : (r : ℕ) (q : Register) → slice_get m.regs r ≡ Some q → IsMarked moving r → slice_index_or firsts r false ≡ level s q.next
