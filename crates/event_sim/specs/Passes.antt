-- Rounds and passes of activations.
use Rattle.std.specs.Prelude.{◌≡◌, ℕ, zero, suc, ◌<◌, ◌≤◌, ◌+◌, ◌*◌, Bool, true, false, List, [], ◌∷◌, length, Contains, All}
use Rattle.circuit.specs.Circuit.{Circuit}
use Rattle.circuit.specs.Meaning.{State, IsSettled, HasLevels, activate, activate_all}

-- the list activates each of the first n assigns at least once
abbrev pub IsRound : ℕ → List ℕ → Type 0
IsRound n ks = (j : ℕ) → j < n → Contains ks j

-- rounds, one after another
abbrev pub activate_rounds : Circuit → State → List (List ℕ) → State
activate_rounds m s [] = s
activate_rounds m s (ks ∷ rounds) = activate_rounds m (activate_all m s ks) rounds

-- as many rounds as there are assigns, each in any order, lead to a settled state
abbrev pub SettlesInRounds : Circuit → Type 0
SettlesInRounds m = (s : State) (rounds : List (List ℕ)) → HasLevels m s → length rounds ≡ length m.assigns →
    All (IsRound (length m.assigns)) rounds → IsSettled m (activate_rounds m s rounds)

-- Activations, in whatever order and from whatever levels of wires and outputs, that lead to settled states with the same inputs and
-- registers lead to the same state.
abbrev pub AllOrdersAgree : Circuit → Type 0
AllOrdersAgree m = (s s' : State) (ks ks' : List ℕ) → s.inputs ≡ s'.inputs → s.regs ≡ s'.regs →
    IsSettled m (activate_all m s ks) → IsSettled m (activate_all m s' ks') → activate_all m s ks ≡ activate_all m s' ks'

-- n passes in this order
abbrev pub passes : Circuit → List ℕ → ℕ → State → State
passes m ks zero s = s
passes m ks (suc n) s = passes m ks n (activate_all m s ks)

-- no activation of a pass changes a level
abbrev pub ChangesNothing : Circuit → List ℕ → State → Type 0
ChangesNothing m ks s = (k : ℕ) → Contains ks k → activate m s k ≡ s

-- the activations of these assigns go from s to s', and whether one of them changes a level
pub record IsPass (m : Circuit) (ks : List ℕ) (s s' : State) (changed : Bool) : Type 0 where
  pub state : s' ≡ activate_all m s ks
  pub still : changed ≡ false → ChangesNothing m ks s
  pub moved : changed ≡ true → ChangesNothing m ks s → ⊥

-- after n passes, each of which changes something, comes one that changes nothing
pub record IsStillAfter (m : Circuit) (ks : List ℕ) (s : State) (n : ℕ) : Type 0 where
  pub still : ChangesNothing m ks (passes m ks n s)
  pub first : (i : ℕ) → i < n → ChangesNothing m ks (passes m ks i s) → ⊥

-- Passes in this order until one changes nothing, which counts too, go from s to s' in so many activations. At most as many change
-- something as there are assigns.
pub record ArePasses (m : Circuit) (ks : List ℕ) (s s' : State) (count : ℕ) : Type 0 where
  pub changing : ℕ
  pub rests : IsStillAfter m ks s changing
  pub state : s' ≡ passes m ks changing s
  pub few : changing ≤ length m.assigns
  pub amount : count ≡ (changing + 1) * length ks
