-- A module as a value: its ports, wires, registers and assigns, without pointers.
use Rattle.std.specs.Prelude.{ℕ, Bool, false, ◌||◌, ◌==◌, List, sum_by}
use Rattle.circuit.specs.declared.bit.Target.{Target}

-- An expression. `Input i` and `Wire w` are places in the module's lists; `Reg r k` is bit k of register r.
pub data Logic : Type 0 where
  Zero : Logic
  One : Logic
  Input : ℕ → Logic
  Wire : ℕ → Logic
  Reg : ℕ → ℕ → Logic
  Not : Logic → Logic
  And : Logic → Logic → Logic
  Or : Logic → Logic → Logic

-- `assign target = bit;`
pub record Assignment : Type 0 where
  pub target : Target
  pub bit : Logic

-- A shift register: at each clock edge bit 0 takes `next`, and bit k what bit k - 1 held.
pub record Register : Type 0 where
  pub name : List ℕ
  pub width : ℕ
  pub next : Logic

-- A module. Inputs and outputs are named without the prefixes `in_` and `out_` of its text.
pub record Circuit : Type 0 where
  pub inputs : List (List ℕ)
  pub outputs : List (List ℕ)
  pub wires : List (List ℕ)
  pub regs : List Register
  pub assigns : List Assignment

abbrev pub circuit : List (List ℕ) → List (List ℕ) → List (List ℕ) → List Register → List Assignment → Circuit
circuit inputs outputs wires regs assigns =
    record { inputs = inputs; outputs = outputs; wires = wires; regs = regs; assigns = assigns }

-- the bits of all registers together
abbrev pub register_bits : Circuit → ℕ
register_bits m = sum_by (λ r. r.width) m.regs

-- whether the expression names wire w
abbrev pub names_wire : Logic → ℕ → Bool
names_wire Zero w = false
names_wire One w = false
names_wire (Input i) w = false
names_wire (Wire v) w = w == v
names_wire (Reg r k) w = false
names_wire (Not x) w = names_wire x w
names_wire (And x y) w = names_wire x w || names_wire y w
names_wire (Or x y) w = names_wire x w || names_wire y w
