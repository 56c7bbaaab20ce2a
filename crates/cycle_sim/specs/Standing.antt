-- A simulation: the cycle that it is in, its steps, and the histories that they make.
use Rattle.std.specs.Prelude.{◌≡◌, ℕ, Bool, false, List, [], ◌∷◌, ◌++◌, slice_index_or, Option, Some, None}
use Rattle.circuit.specs.Circuit.{Circuit}
use Rattle.circuit.specs.Meaning.{State, IsStart, IsNext, IsHistory}

-- A module, and the state of the cycle that its simulation is in: none before cycle 0.
pub record Standing : Type 0 where
  pub circuit : Circuit
  pub state : Option State

-- one more cycle under these input levels: from before cycle 0 to cycle 0, from a state to the next one
abbrev pub IsStep : Circuit → Option State → Option State → List Bool → Type 0
IsStep m before None inputs = ⊥
IsStep m None (Some s) inputs = IsStart m s inputs
IsStep m (Some s) (Some s') inputs = IsNext m s s' inputs

-- the level of an output in the cycle, where there is one
abbrev pub output_level : Option State → ℕ → Bool
output_level None out = false
output_level (Some s) out = slice_index_or s.outs out false

-- the last of these states
abbrev pub last_state : List State → Option State
last_state [] = None
last_state (s ∷ []) = Some s
last_state (s ∷ s' ∷ states) = last_state (s' ∷ states)

-- steps under these lists of input levels, one a cycle, from before cycle 0, went through these states to here
pub record Ran (m : Circuit) (us : List (List Bool)) (states : List State) (here : Option State) : Type 0 where
  pub history : IsHistory m us states
  pub last : here ≡ last_state states

-- one more step after such steps: they went through one more state
abbrev pub RanOn : Circuit → List (List Bool) → List State → List Bool → Option State → Type 0
RanOn m us states inputs here = (s : State) × (here ≡ Some s) × Ran m (us ++ inputs ∷ []) (states ++ s ∷ []) here
