-- What a simulation keeps between its steps.
use Rattle.std.specs.Prelude.{◌≡◌, ℕ, ◌+◌, ◌*◌, ◌<◌, ◌≤◌, Bool, true, false, List, length, map}
use Rattle.circuit.specs.Circuit.{Circuit}
use Rattle.circuit.specs.Meaning.{State, IsSettled, row_at_start}
use Rattle.levels.specs.Levels.{HasAllLevels}
use Rattle.levels.specs.Marked.{IsUnmarked}
use Rattle.levels.specs.Operands.{AreReaders, HasTaps}
use Rattle.cycle_sim.specs.Operations.{Plan, IsPlan}
use Rattle.marked_steps.specs.UpToDate.{IsUpToDate}

-- Every level has its place, the lists have all readers, the program is the module's, there is room for marks and next levels, no register moves, and
-- what isn't marked is up to date. Before the first step the registers are as in cycle 0; after it all is settled.
pub record IsReady (m : Circuit) (started quiet : Bool) (s : State) (starts : List ℕ) (lists : List (List ℕ)) (tapped : List ℕ) (plan : Plan) (words moving : List ℕ) (firsts : List Bool) : Type 0 where
  pub levels : HasAllLevels m s
  pub readers : AreReaders m starts lists
  pub taps : HasTaps lists tapped
  pub program : IsPlan m plan
  pub room : length m.assigns + length m.regs ≤ 64 * length words
  pub moving_room : length m.regs ≤ 64 * length moving
  pub next_room : length firsts ≡ length m.regs
  pub none : (r : ℕ) → r < length m.regs → IsUnmarked moving r
  pub up_to_date : IsUpToDate m s words
  pub at_start : started ≡ false → s.regs ≡ map row_at_start m.regs
  pub settled : started ≡ true → IsSettled m s
  pub rests : quiet ≡ true → (started ≡ true) × ((r : ℕ) → r < length m.regs → IsUnmarked words (length m.assigns + r))
