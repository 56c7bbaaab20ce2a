-- Operations on one list of levels, and what they compute of a module.
use Rattle.std.specs.Prelude.{◌≡◌, ◌≢◌, ℕ, ◌+◌, ◌/◌, ◌%◌, ◌^◌, ◌<◌, ◌≤◌, ◌==◌, Bool, false, not, ◌&&◌, ◌||◌, if◌then◌else◌, List, [], ◌∷◌, ◌++◌, length, slice_get, slice_index_or, slice_set, Some}
use Rattle.circuit.specs.declared.bit.Target.{Target}
use Rattle.circuit.specs.declared.bit.Target.TheVariants as target
use Rattle.circuit.specs.Circuit.{Logic, Zero, One, Input, Wire, Reg, Not, And, Or, Assignment, Circuit}
use Rattle.circuit.specs.Meaning.{State, level, activate_all, upto, put}
use Rattle.cycle_sim.specs.declared.operation.Places.{Places}
use Rattle.cycle_sim.specs.declared.operation.Formula.{Formula}
use Rattle.cycle_sim.specs.declared.operation.Operation.{Operation}
use Rattle.cycle_sim.specs.declared.operation.Tap.{Tap}

-- the level at a place
abbrev pub at : List Bool → ℕ → Bool
at values place = slice_index_or values place false

-- the level of a literal: 2 p stands for the level at place p, and 2 p + 1 for the other level
abbrev pub literal_level : List Bool → ℕ → Bool
literal_level values n = if n % 2 == 1 then not (at values (n / 2)) else at values (n / 2)

-- the level of a formula: first | (second & third)
abbrev pub formula_level : List Bool → Formula → Bool
formula_level values f = literal_level values f.first || (literal_level values f.second && literal_level values f.third)

-- the levels after an operation
abbrev pub done : List Bool → Operation → List Bool
done values o = slice_set values o.to (formula_level values o.formula)

-- the levels after operations, one after another
abbrev pub all_done : List Bool → List Operation → List Bool
all_done values [] = values
all_done values (o ∷ os) = all_done (done values o) os

abbrev pub wire_place : Places → ℕ → ℕ
wire_place places w = 1 + places.inputs + w

abbrev pub out_place : Places → ℕ → ℕ
out_place places o = 1 + places.inputs + places.wires + o

-- the first place after those of inputs, wires and outputs
abbrev pub free_place : Places → ℕ
free_place places = 1 + places.inputs + places.wires + places.outs

abbrev pub target_place : Places → Target → ℕ
target_place places (target.Wire w) = wire_place places w
target_place places (target.Out o) = out_place places o

-- there are places for the inputs, wires and outputs of the module
pub record ArePlaces (m : Circuit) (places : Places) : Type 0 where
  pub inputs : places.inputs ≡ length m.inputs
  pub wires : places.wires ≡ length m.wires
  pub outs : places.outs ≡ length m.outputs

-- the wire or output has a place
abbrev pub IsPlaced : Places → Target → Type 0
IsPlaced places (target.Wire w) = w < places.wires
IsPlaced places (target.Out o) = o < places.outs

-- each input and wire that the expression names has a place
abbrev pub Fits : Places → Logic → Type 0
Fits places Zero = Unit {0}
Fits places One = Unit {0}
Fits places (Input i) = i < places.inputs
Fits places (Wire w) = w < places.wires
Fits places (Reg r k) = Unit {0}
Fits places (Not x) = Fits places x
Fits places (And x y) = Fits places x × Fits places y
Fits places (Or x y) = Fits places x × Fits places y

-- a plan: operations in order, taps that are made before them, and how many places there are
pub record Plan : Type 0 where
  pub places : Places
  pub operations : List Operation
  pub taps : List Tap
  pub room : ℕ

abbrev pub plan : Places → List Operation → List Tap → List Bool → Plan
plan places operations taps values = record { places = places; operations = operations; taps = taps; room = length values }

-- a tap of the register's bit is at the place
pub record HasTap (p : Plan) (reg bit to : ℕ) : Type 0 where
  pub index : ℕ
  pub tap : slice_get p.taps index ≡ Some (record { to = to; reg = reg; bit = bit })

-- the plan with a tap at a new place
abbrev pub with_tap : Plan → ℕ → ℕ → Plan
with_tap p reg bit = record p { taps = p.taps ++ record { to = p.room; reg = reg; bit = bit } ∷ []; room = p.room + 1 }

-- the plan with an operation more
abbrev pub with_operation : Plan → ℕ → Formula → Plan
with_operation p to formula = record p { operations = p.operations ++ record { to = to; formula = formula } ∷ [] }

-- the literals of a formula are of places below a number
pub record IsWithin (room : ℕ) (f : Formula) : Type 0 where
  pub first : f.first / 2 < room
  pub second : f.second / 2 < room
  pub third : f.third / 2 < room

-- All places are below the room. Each tap has a place of its own, and no operation gives that a level.
pub record IsSound (p : Plan) : Type 0 where
  pub few : p.room ≤ 2 ^ 31
  pub places : free_place p.places ≤ p.room
  pub operations : (i : ℕ) (o : Operation) → slice_get p.operations i ≡ Some o → (o.to < p.room) × IsWithin p.room o.formula
  pub taps : (j : ℕ) (t : Tap) → slice_get p.taps j ≡ Some t → (free_place p.places ≤ t.to) × (t.to < p.room)
  pub apart : (i j : ℕ) (o : Operation) (t : Tap) → slice_get p.operations i ≡ Some o → slice_get p.taps j ≡ Some t → o.to ≢ t.to
  pub own : (i j : ℕ) (t u : Tap) → slice_get p.taps i ≡ Some t → slice_get p.taps j ≡ Some u → t.to ≡ u.to → i ≡ j

-- the levels of the state's inputs, wires and outputs are at their places
pub record AreLaid (places : Places) (s : State) (values : List Bool) : Type 0 where
  pub wire_count : length s.wires ≡ places.wires
  pub out_count : length s.outs ≡ places.outs
  pub low : at values 0 ≡ false
  pub inputs : (i : ℕ) → i < places.inputs → at values (1 + i) ≡ slice_index_or s.inputs i false
  pub wires : (w : ℕ) → w < places.wires → at values (wire_place places w) ≡ slice_index_or s.wires w false
  pub outs : (o : ℕ) → o < places.outs → at values (out_place places o) ≡ slice_index_or s.outs o false

-- the levels of the state's register bits are at the places of their taps
abbrev pub AreTapped : List Tap → State → List Bool → Type 0
AreTapped taps s values = (j : ℕ) (t : Tap) → slice_get taps j ≡ Some t →
    at values t.to ≡ slice_index_or (slice_index_or s.regs t.reg []) t.bit false

-- the values are the state's levels at the plan's places
pub record Represents (p : Plan) (s : State) (values : List Bool) : Type 0 where
  pub room : p.room ≤ length values
  pub laid : AreLaid p.places s values
  pub tapped : AreTapped p.taps s values

-- a plan after more taps, and more operations at new places
pub record Grows (p p' : Plan) : Type 0 where
  pub added : List Operation
  pub operations : p'.operations ≡ p.operations ++ added
  pub places : p'.places ≡ p.places
  pub room : p.room ≤ p'.room
  pub taps : (j : ℕ) (t : Tap) → slice_get p.taps j ≡ Some t → slice_get p'.taps j ≡ Some t
  pub new : (i : ℕ) (o : Operation) → slice_get added i ≡ Some o → p.room ≤ o.to

-- the operations that were added give what is read the level of the expression, in whatever state the values represent
pub record Computes (p p' : Plan) (read : List Bool → Bool) (e : Logic) : Type 0 where
  pub before : IsSound p
  pub after : IsSound p'
  pub grows : Grows p p'
  pub level : (s : State) (values : List Bool) → Represents p' s values → read (all_done values grows.added) ≡ level s e

-- the operations that were added make values that represent a state into values that represent it after the assign's activation
pub record Activates (p p' : Plan) (a : Assignment) : Type 0 where
  pub after : IsSound p'
  pub added : List Operation
  pub operations : p'.operations ≡ p.operations ++ added
  pub places : p'.places ≡ p.places
  pub room : p.room ≤ p'.room
  pub taps : (j : ℕ) (t : Tap) → slice_get p.taps j ≡ Some t → slice_get p'.taps j ≡ Some t
  pub run : (s : State) (values : List Bool) → Represents p' s values →
      Represents p' (put s a.target (level s a.bit)) (all_done values added)

-- the plan's operations make values that represent a state into values that represent it after activations of the first assigns, in order
pub record IsPlanOfFirst (m : Circuit) (count : ℕ) (p : Plan) : Type 0 where
  pub places : ArePlaces m p.places
  pub run : (s : State) (values : List Bool) → Represents p s values →
      Represents p (activate_all m s (upto 0 count)) (all_done values p.operations)

-- the same, of all assigns
abbrev pub IsPlan : Circuit → Plan → Type 0
IsPlan m p = IsPlanOfFirst m (length m.assigns) p
