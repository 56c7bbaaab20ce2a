-- What a module does: levels, settled states, histories, and activations of its assigns in any order.
-- A state holds the levels of one clock cycle. The reset input stays low, so it is no part of a state.
use Rattle.std.specs.Prelude.{◌≡◌, ℕ, zero, suc, Bool, true, false, not, ◌&&◌, ◌||◌, List, [], ◌∷◌, length, slice_index_or, slice_set, take, map, replicate, slice_get, Option, Some, None, ◌⊎◌}
use Rattle.rl_time.specs.declared.time.Time.{Time}
use Rattle.rl_time.specs.Time.{has_risen}
use Rattle.circuit.specs.declared.bit.Target.{Target}
use Rattle.circuit.specs.declared.bit.Target.TheVariants as target
use Rattle.circuit.specs.Circuit.{Logic, Zero, One, Input, Wire, Reg, Not, And, Or, Assignment, Register, Circuit}

-- the level of each input, register bit, wire and output; true is high
pub record State : Type 0 where
  pub inputs : List Bool
  pub regs : List (List Bool)
  pub wires : List Bool
  pub outs : List Bool

-- the level of an expression
abbrev pub level : State → Logic → Bool
level s Zero = false
level s One = true
level s (Input i) = slice_index_or s.inputs i false
level s (Wire w) = slice_index_or s.wires w false
level s (Reg r k) = slice_index_or (slice_index_or s.regs r []) k false
level s (Not x) = not (level s x)
level s (And x y) = level s x && level s y
level s (Or x y) = level s x || level s y

-- the level of a wire or an output
abbrev pub at : State → Target → Bool
at s (target.Wire w) = slice_index_or s.wires w false
at s (target.Out o) = slice_index_or s.outs o false

-- each wire and each output has its expression's level
pub record IsSettled (m : Circuit) (s : State) : Type 0 where
  pub wires : length s.wires ≡ length m.wires
  pub outs : length s.outs ≡ length m.outputs
  pub each : (k : ℕ) (a : Assignment) → slice_get m.assigns k ≡ Some a → at s a.target ≡ level s a.bit

-- a register after a clock edge: bit 0 takes the level of `next`, and bit k what bit k - 1 held
abbrev pub row_after : State → Register → List Bool → List Bool
row_after s r row = take r.width (level s r.next ∷ row)

-- all registers after a clock edge, each from the bits that it held
abbrev pub rows_after : State → List Register → List (List Bool) → List (List Bool)
rows_after s [] rows = []
rows_after s (r ∷ rs) [] = []
rows_after s (r ∷ rs) (row ∷ rows) = row_after s r row ∷ rows_after s rs rows

-- a register in cycle 0, the first after reset: every bit is low
abbrev pub row_at_start : Register → List Bool
row_at_start r = replicate r.width false

-- s is the state of cycle 0 under these input levels
pub record IsStart (m : Circuit) (s : State) (inputs : List Bool) : Type 0 where
  pub settled : IsSettled m s
  pub inputs_are : s.inputs ≡ inputs
  pub regs_are : s.regs ≡ map row_at_start m.regs

-- s' is the state of the cycle after that of s, under these input levels
pub record IsNext (m : Circuit) (s s' : State) (inputs : List Bool) : Type 0 where
  pub settled : IsSettled m s'
  pub inputs_are : s'.inputs ≡ inputs
  pub regs_are : s'.regs ≡ rows_after s m.regs s.regs

-- these states come one after another after s, under these lists of input levels, one a cycle
abbrev pub Follows : Circuit → State → List (List Bool) → List State → Type 0
Follows m s [] [] = Unit {0}
Follows m s [] (s' ∷ ss) = ⊥
Follows m s (u ∷ us) [] = ⊥
Follows m s (u ∷ us) (s' ∷ ss) = IsNext m s s' u × Follows m s' us ss

-- a history: the states of the cycles from 0 on, under these lists of input levels, one a cycle
abbrev pub IsHistory : Circuit → List (List Bool) → List State → Type 0
IsHistory m [] [] = Unit {0}
IsHistory m [] (s ∷ ss) = ⊥
IsHistory m (u ∷ us) [] = ⊥
IsHistory m (u ∷ us) (s ∷ ss) = IsStart m s u × Follows m s us ss

-- there is a history, and it is the only one
pub record HasOneHistory (m : Circuit) (us : List (List Bool)) : Type 0 where
  pub states : List State
  pub is : IsHistory m us states
  pub only : (others : List State) → IsHistory m us others → others ≡ states

-- the levels in one cycle of inputs that rise at these times and stay high
abbrev pub levels_at : List Time → ℕ → List Bool
levels_at x cycle = map (λ a. has_risen a cycle) x

-- their levels in n cycles from this one on
abbrev pub levels_from : List Time → ℕ → ℕ → List (List Bool)
levels_from x cycle zero = []
levels_from x cycle (suc n) = levels_at x cycle ∷ levels_from x (suc cycle) n

-- the state with this level at a wire or an output
abbrev pub put : State → Target → Bool → State
put s (target.Wire w) v = record s { wires = slice_set s.wires w v }
put s (target.Out o) v = record s { outs = slice_set s.outs o v }

-- an activation of an assign: the target takes its expression's level, and nothing else changes
abbrev pub activate_one : State → Option Assignment → State
activate_one s None = s
activate_one s (Some a) = put s a.target (level s a.bit)

-- an activation of assign k
abbrev pub activate : Circuit → State → ℕ → State
activate m s k = activate_one s (slice_get m.assigns k)

-- the activations of these assigns, one after another
abbrev pub activate_all : Circuit → State → List ℕ → State
activate_all m s [] = s
activate_all m s (k ∷ ks) = activate_all m (activate m s k) ks

-- the n numbers from j on
abbrev pub upto : ℕ → ℕ → List ℕ
upto j zero = []
upto j (suc n) = j ∷ upto (suc j) n

-- the first list's numbers occur in the second in their order, with any others before, between and after them
abbrev pub InOrder : List ℕ → List ℕ → Type 0
InOrder [] ks = Unit {0}
InOrder (j ∷ js) [] = ⊥
InOrder (j ∷ js) (k ∷ ks) = ((k ≡ j) × InOrder js ks) ⊎ InOrder (j ∷ js) ks

-- the state has a level for each wire and each output of the module
pub record HasLevels (m : Circuit) (s : State) : Type 0 where
  pub wires : length s.wires ≡ length m.wires
  pub outs : length s.outs ≡ length m.outputs

-- any activations in which the assigns occur in their order lead to a settled state
abbrev pub SettlesInOrder : Circuit → Type 0
SettlesInOrder m = (s : State) (ks : List ℕ) → HasLevels m s → InOrder (upto 0 (length m.assigns)) ks →
    IsSettled m (activate_all m s ks)

-- settled states with the same inputs and registers are the same
abbrev pub HasOneSettled : Circuit → Type 0
HasOneSettled m = (s s' : State) → IsSettled m s → IsSettled m s' →
    s.inputs ≡ s'.inputs → s.regs ≡ s'.regs → s ≡ s'
