-- A simulation by activations: where it is, and what a clock edge leaves.
use Rattle.std.specs.Prelude.{◌≡◌, ℕ, ◌+◌, ◌*◌, ◌<◌, ◌≤◌, Bool, true, false, List, length, map}
use Rattle.circuit.specs.Circuit.{Circuit}
use Rattle.circuit.specs.Meaning.{State, rows_after, row_at_start}
use Rattle.levels.specs.Levels.{HasAllLevels}
use Rattle.levels.specs.Marked.{IsUnmarked}
use Rattle.levels.specs.Operands.{AreReaders, HasTaps}
use Rattle.marked_steps.specs.UpToDate.{IsUpToDate}

-- a module, whether a clock edge was made, and the levels
pub record Standing : Type 0 where
  pub circuit : Circuit
  pub started : Bool
  pub state : State

-- A clock edge under these input levels. All registers take their next values at once, at the first edge none. The wires and outputs keep
-- their levels.
abbrev pub edge_after : Circuit → Bool → State → List Bool → State
edge_after m false s inputs = record s { inputs = inputs }
edge_after m true s inputs = record s { inputs = inputs; regs = rows_after s m.regs s.regs }

-- What is true before and after each call: every level has its place, the lists have all readers, there is room for marks and next
-- levels, no register moves, and what isn't marked is up to date. Before the first edge the registers are as in cycle 0.
pub record IsReady (m : Circuit) (started : Bool) (s : State) (starts : List ℕ) (lists : List (List ℕ)) (tapped words moving : List ℕ) (firsts : List Bool) : Type 0 where
  pub levels : HasAllLevels m s
  pub readers : AreReaders m starts lists
  pub taps : HasTaps lists tapped
  pub room : length m.assigns + length m.regs ≤ 64 * length words
  pub moving_room : length m.regs ≤ 64 * length moving
  pub next_room : length firsts ≡ length m.regs
  pub none : (r : ℕ) → r < length m.regs → IsUnmarked moving r
  pub up_to_date : IsUpToDate m s words
  pub at_start : started ≡ false → s.regs ≡ map row_at_start m.regs
