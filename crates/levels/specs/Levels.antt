-- What the levels of a module are as lists, and one clock edge on them.
use Rattle.std.specs.Prelude.{◌≡◌, ◌<◌, Bool, false, List, [], ◌∷◌, length, map, replicate, take}
use Rattle.circuit.specs.declared.bit.Target.{Target}
use Rattle.circuit.specs.declared.bit.Target.TheVariants as target
use Rattle.circuit.specs.Circuit.{Register, Circuit}
use Rattle.circuit.specs.Meaning.{State, HasLevels, row_at_start}

-- the rows have as many bits as these registers
abbrev pub HaveWidths : List Register → List (List Bool) → Type 0
HaveWidths regs rows = map (λ row. length row) rows ≡ map (λ r. r.width) regs

-- the state has a level for each input, register bit, wire and output of the module
pub record HasAllLevels (m : Circuit) (s : State) : Type 0 where
  pub inputs : length s.inputs ≡ length m.inputs
  pub regs : HaveWidths m.regs s.regs
  pub rest : HasLevels m s

-- all levels are low
abbrev pub all_low : Circuit → State
all_low m = record {
  inputs = replicate (length m.inputs) false;
  regs = map row_at_start m.regs;
  wires = replicate (length m.wires) false;
  outs = replicate (length m.outputs) false;
}

-- the state has a level for the wire or output
abbrev pub HasPlace : State → Target → Type 0
HasPlace s (target.Wire w) = w < length s.wires
HasPlace s (target.Out o) = o < length s.outs

-- a row of bits, each of which takes the level before it, and bit 0 the first level
abbrev pub shifted : Bool → List Bool → List Bool
shifted first row = take (length row) (first ∷ row)

-- rows that take these first levels
abbrev pub all_shifted : List Bool → List (List Bool) → List (List Bool)
all_shifted [] rows = rows
all_shifted (first ∷ firsts) [] = []
all_shifted (first ∷ firsts) (row ∷ rows) = shifted first row ∷ all_shifted firsts rows
