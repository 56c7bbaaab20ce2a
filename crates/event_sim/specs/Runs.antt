-- Runs of a module: in each cycle a clock edge, and passes until one changes nothing.
use Rattle.std.specs.Prelude.{◌≡◌, ℕ, ◌+◌, Bool, true, false, List, [], ◌∷◌, length}
use Rattle.circuit.specs.Circuit.{Circuit}
use Rattle.circuit.specs.Meaning.{State, IsHistory, activate_all, IsSettled, IsStart, IsNext}
use Rattle.levels.specs.Levels.{all_low}
use Rattle.event_sim.specs.Standing.{edge_after}
use Rattle.event_sim.specs.Passes.{IsRound, ArePasses}

-- The cycles under these lists of input levels, from a state, before the first edge or not, go through these states in so many
-- activations.
abbrev pub RunsFrom : Circuit → List ℕ → Bool → State → List (List Bool) → List State → ℕ → Type 0
RunsFrom m ks started s [] [] count = count ≡ 0
RunsFrom m ks started s [] (s' ∷ states) count = ⊥
RunsFrom m ks started s (u ∷ us) [] count = ⊥
RunsFrom m ks started s (u ∷ us) (s' ∷ states) count = (n : ℕ) × (rest : ℕ) × (count ≡ n + rest)
    × ArePasses m ks (edge_after m started s u) s' n × RunsFrom m ks true s' us states rest

-- the cycles from 0 on, where all levels are low before
abbrev pub IsRun : Circuit → List ℕ → List (List Bool) → List State → ℕ → Type 0
IsRun m ks us states count = RunsFrom m ks false (all_low m) us states count

-- Settled states that activations in whatever order lead to, after clock edges: in cycle 0, and in the cycle after a state.
pub record MakeHistories (m : Circuit) : Type 0 where
  pub start : (inputs : List Bool) (ks : List ℕ) → let s = activate_all m (edge_after m false (all_low m) inputs) ks in
      IsSettled m s → IsStart m s inputs
  pub next : (before : State) (inputs : List Bool) (ks : List ℕ) → let s = activate_all m (edge_after m true before inputs) ks in
      IsSettled m s → IsNext m before s inputs

-- runs in an order that activates each assign go through the module's histories
abbrev pub RunsAreHistories : Circuit → Type 0
RunsAreHistories m = (ks : List ℕ) (us : List (List Bool)) (states : List State) (count : ℕ) → IsRound (length m.assigns) ks →
    IsRun m ks us states count → IsHistory m us states
