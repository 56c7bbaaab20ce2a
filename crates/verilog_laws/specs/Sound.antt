-- What is true of statements that break no rule.
use Rattle.std.specs.Prelude.{◌≡◌, ◌≤◌, ◌<◌, ℕ, ◌+◌, Bool, true, List, length, count_by, slice_get, Option, Some, None}
use Rattle.circuit.specs.declared.bit.Target.TheVariants as target
use Rattle.circuit.specs.Circuit.{Logic, Assignment, Circuit, names_wire}
use Rattle.circuit.specs.Names.{in_name, out_name, is_port_name, is_own_name}
use Rattle.circuit.specs.Valid.{IsTarget, IsInRange}
use Rattle.verilog_text.specs.Judging.{SoFar, Declared, Meaning, ClockOrReset, InputAt, OutputAt, WireAt, RegAt, found, bits_of, is_input_port, is_output_port, module_of}

-- the place that a name means is one of the module's
abbrev pub HasPlace : SoFar → Meaning → Type 0
HasPlace x ClockOrReset = Unit {0}
HasPlace x (InputAt i) = i < length x.inputs
HasPlace x (OutputAt o) = o < length x.outputs
HasPlace x (WireAt w) = w < length x.wires
HasPlace x (RegAt r) = r < length x.regs

-- each of the names passes the test, and means its place
abbrev pub AreNamed : SoFar → (List ℕ → List ℕ) → (List ℕ → Bool) → (ℕ → Meaning) → List (List ℕ) → Type 0
AreNamed x whole test meaning names = (k : ℕ) (n : List ℕ) → slice_get names k ≡ Some n →
    (test n ≡ true) × (found (whole n) x.entries ≡ Some (meaning k))

-- what a register takes names what the module has
abbrev pub NextInRange : Circuit → Option Logic → Type 0
NextInRange m None = Unit {0}
NextInRange m (Some bit) = IsInRange m bit

-- a register by its place
pub record IsRegister (x : SoFar) (k : ℕ) (r : Declared) : Type 0 where
  pub own : is_own_name r.name ≡ true
  pub named : found r.name x.entries ≡ Some (RegAt k)
  pub some_bit : 1 ≤ r.width
  pub few_bits : r.width ≤ 65536
  pub next : NextInRange (module_of x) r.next

-- an assign by its place
pub record IsAssign (x : SoFar) (k : ℕ) (a : Assignment) : Type 0 where
  pub has_target : IsTarget (module_of x) a.target
  pub in_range : IsInRange (module_of x) a.bit
  pub once : (j : ℕ) (b : Assignment) → slice_get x.assigns j ≡ Some b → a.target ≡ b.target → k ≡ j
  pub earlier : (w : ℕ) → names_wire a.bit w ≡ true →
      (i : ℕ) × (b : Assignment) × (i < k) × (slice_get x.assigns i ≡ Some b) × (b.target ≡ target.Wire w)

-- what is true of statements that break no rule
pub record IsSound (x : SoFar) : Type 0 where
  pub few_inputs : count_by is_input_port x.to_declare + length x.inputs ≤ 64
  pub few_outputs : count_by is_output_port x.to_declare + length x.outputs ≤ 64
  pub few_wires : length x.wires ≤ 65536
  pub few_bits : bits_of x.regs ≤ 65536
  pub few_regs : length x.regs ≤ bits_of x.regs
  pub places : (n : List ℕ) (m : Meaning) → found n x.entries ≡ Some m → HasPlace x m
  pub inputs : AreNamed x in_name is_port_name InputAt x.inputs
  pub outputs : AreNamed x out_name is_port_name OutputAt x.outputs
  pub wires : AreNamed x (λ n. n) is_own_name WireAt x.wires
  pub regs : (k : ℕ) (r : Declared) → slice_get x.regs k ≡ Some r → IsRegister x k r
  pub assigns : (k : ℕ) (a : Assignment) → slice_get x.assigns k ≡ Some a → IsAssign x k a
