-- The levels of a module's outputs and the number of activations, as they are written.
use Rattle.std.specs.Prelude.{◌≡◌, ℕ, List, ◌++◌, length, codes, decimal}
use Rattle.rl_time.specs.declared.time.Time.{Time}
use Rattle.circuit.specs.Meaning.{levels_from}
use Rattle.event_sim.specs.Orders.{numbered_order}
use Rattle.event_sim.specs.Runs.{IsRun}
use Rattle.rl_flow.specs.Levels.{IsLevelText}

-- how many activations there were
abbrev pub activations_line : ℕ → List ℕ
activations_line count = codes "activations " ++ decimal count ++ codes "\n"

-- The lines are those without an order. After them is the number of activations of the run in the numbered order.
pub record IsOrderText (cycles : ℕ) (times : List Time) (order : ℕ) (bytes text : List ℕ) : Type 0 where
  pub lines : List ℕ
  pub levels : IsLevelText cycles times bytes lines
  pub activations : ℕ
  pub run : IsRun levels.circuit (numbered_order (length levels.circuit.assigns) order) (levels_from times 0 cycles) levels.states activations
  pub written : text ≡ lines ++ activations_line activations
