-- What makes a module valid.
use Rattle.std.specs.Prelude.{◌≡◌, ◌≢◌, ℕ, ◌<◌, ◌≤◌, true, length, All, AllPairs, IsTrue, slice_get, Option, Some, None}
use Rattle.circuit.specs.declared.bit.Target.{Target}
use Rattle.circuit.specs.declared.bit.Target.TheVariants as target
use Rattle.circuit.specs.Circuit.{Logic, Zero, One, Input, Wire, Reg, Not, And, Or, Assignment, Register, Circuit, register_bits, names_wire}
use Rattle.circuit.specs.Names.{is_port_name, is_own_name, declared_names}

-- the target is a wire or an output of the module
abbrev pub IsTarget : Circuit → Target → Type 0
IsTarget m (target.Wire w) = w < length m.wires
IsTarget m (target.Out o) = o < length m.outputs

-- Each wire and each output has exactly one assign, and an assign names only wires that earlier assigns give.
pub record IsOrdered (m : Circuit) : Type 0 where
  pub targets : (k : ℕ) (a : Assignment) → slice_get m.assigns k ≡ Some a → IsTarget m a.target
  pub once : (i j : ℕ) (a b : Assignment) → slice_get m.assigns i ≡ Some a → slice_get m.assigns j ≡ Some b →
      a.target ≡ b.target → i ≡ j
  pub given : (t : Target) → IsTarget m t →
      (k : ℕ) × (a : Assignment) × (slice_get m.assigns k ≡ Some a) × (a.target ≡ t)
  pub earlier : (k : ℕ) (a : Assignment) → slice_get m.assigns k ≡ Some a → (w : ℕ) → names_wire a.bit w ≡ true →
      (i : ℕ) × (b : Assignment) × (i < k) × (slice_get m.assigns i ≡ Some b) × (b.target ≡ target.Wire w)

-- bit k of this register, where there is one
abbrev pub HasBit : Option Register → ℕ → Type 0
HasBit None k = ⊥
HasBit (Some r) k = k < r.width

-- every input, wire and register bit that the expression names is one of the module's
abbrev pub IsInRange : Circuit → Logic → Type 0
IsInRange m Zero = Unit {0}
IsInRange m One = Unit {0}
IsInRange m (Input i) = i < length m.inputs
IsInRange m (Wire w) = w < length m.wires
IsInRange m (Reg r k) = HasBit (slice_get m.regs r) k
IsInRange m (Not x) = IsInRange m x
IsInRange m (And x y) = IsInRange m x × IsInRange m y
IsInRange m (Or x y) = IsInRange m x × IsInRange m y

-- Every name keeps its rules, and no name is declared twice.
pub record HasValidNames (m : Circuit) : Type 0 where
  pub inputs : All (λ name. IsTrue (is_port_name name)) m.inputs
  pub outputs : All (λ name. IsTrue (is_port_name name)) m.outputs
  pub wires : All (λ name. IsTrue (is_own_name name)) m.wires
  pub regs : All (λ r. IsTrue (is_own_name r.name)) m.regs
  pub distinct : AllPairs (λ a b. a ≢ b) (declared_names m)

-- A valid module: 1 to 64 inputs and outputs, at most 65,536 wires and register bits, registers of one bit or more,
-- valid names, expressions that name what the module has, and assigns in order.
pub record IsValid (m : Circuit) : Type 0 where
  pub some_input : 1 ≤ length m.inputs
  pub few_inputs : length m.inputs ≤ 64
  pub some_output : 1 ≤ length m.outputs
  pub few_outputs : length m.outputs ≤ 64
  pub few_wires : length m.wires ≤ 65536
  pub few_bits : register_bits m ≤ 65536
  pub widths : All (λ r. 1 ≤ r.width) m.regs
  pub names : HasValidNames m
  pub assigned_in_range : All (λ a. IsInRange m a.bit) m.assigns
  pub next_in_range : All (λ r. IsInRange m r.next) m.regs
  pub ordered : IsOrdered m
