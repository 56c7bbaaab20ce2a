-- The rules that all gates keep.
use Rattle.std.specs.Prelude.{◌≡◌, ◌≢◌, ℕ, ◌+◌, ◌<◌, ◌≤◌, List, [], ◌∷◌, length, map, slice_get, Some, All, AllPairs, IsTrue}
use Rattle.circuit.specs.Names.{is_port_name}
use Rattle.gate_lower.specs.declared.gates.Line.{Line}
use Rattle.gate_lower.specs.declared.gates.Line.TheVariants as line
use Rattle.gate_lower.specs.declared.gates.Gate.{Gate}
use Rattle.gate_lower.specs.declared.gates.Gate.TheVariants as gate
use Rattle.gate_lower.specs.declared.gates.Delay.{Delay}
use Rattle.gate_lower.specs.Netlist.{Output, Netlist}

-- Among so many inputs, gates and these delays, the line is low, an input, a gate, or a tap of a delay.
abbrev pub IsLineOf : ℕ → ℕ → List Delay → Line → Type 0
IsLineOf inputs gates delays line.Low = Unit {0}
IsLineOf inputs gates delays (line.Input i) = i < inputs
IsLineOf inputs gates delays (line.Gate k) = k < gates
IsLineOf inputs gates delays (line.Tap n c) = (d : Delay) × (slice_get delays n ≡ Some d) × (1 ≤ c) × (c ≤ d.width)

-- both operands of the gate are such lines
abbrev pub HasLinesOf : ℕ → ℕ → List Delay → Gate → Type 0
HasLinesOf inputs gates delays (gate.Or p q) = IsLineOf inputs gates delays p × IsLineOf inputs gates delays q
HasLinesOf inputs gates delays (gate.And p q) = IsLineOf inputs gates delays p × IsLineOf inputs gates delays q
HasLinesOf inputs gates delays (gate.Latch p q) = IsLineOf inputs gates delays p × IsLineOf inputs gates delays q

-- the same, where only the first k gates are named
abbrev pub IsLine : Netlist → ℕ → Line → Type 0
IsLine g k l = IsLineOf (length g.inputs) k g.delays l

abbrev pub HasLines : Netlist → ℕ → Gate → Type 0
HasLines g k q = HasLinesOf (length g.inputs) k g.delays q

-- one register bit holds a latch's level
abbrev pub latch_bits : Gate → ℕ
latch_bits (gate.Or p q) = 0
latch_bits (gate.And p q) = 0
latch_bits (gate.Latch p q) = 1

-- the register bits of some delays: each has its width
abbrev pub delay_bits : List Delay → ℕ
delay_bits [] = 0
delay_bits (d ∷ delays) = d.width + delay_bits delays

-- the register bits of the latches among some gates
abbrev pub held_bits : List Gate → ℕ
held_bits [] = 0
held_bits (q ∷ gates) = latch_bits q + held_bits gates

abbrev pub register_bits : Netlist → ℕ
register_bits g = delay_bits g.delays + held_bits g.gates

abbrev pub output_names : List Output → List (List ℕ)
output_names outputs = map (λ o. o.name) outputs

-- A gate takes directly only gates that are before it; every other number is in range; no two gates are the same, and no two delays
-- have the same line.
pub record IsNetlist (g : Netlist) : Type 0 where
  pub some_input : 1 ≤ length g.inputs
  pub few_inputs : length g.inputs ≤ 64
  pub some_output : 1 ≤ length g.outputs
  pub few_outputs : length g.outputs ≤ 64
  pub few_gates : length g.gates ≤ 16384
  pub few_bits : register_bits g ≤ 65536
  pub good_input_names : All (λ name. IsTrue (is_port_name name)) g.inputs
  pub good_output_names : All (λ name. IsTrue (is_port_name name)) (output_names g.outputs)
  pub distinct_inputs : AllPairs (λ a b. a ≢ b) g.inputs
  pub distinct_outputs : AllPairs (λ a b. a ≢ b) (output_names g.outputs)
  pub gates : (k : ℕ) (q : Gate) → slice_get g.gates k ≡ Some q → HasLines g k q
  pub delays : (n : ℕ) (d : Delay) → slice_get g.delays n ≡ Some d → IsLine g (length g.gates) d.from
  pub widths : (n : ℕ) (d : Delay) → slice_get g.delays n ≡ Some d → 1 ≤ d.width
  pub outputs : (o : ℕ) (l : Output) → slice_get g.outputs o ≡ Some l → IsLine g (length g.gates) l.line
  pub gates_once : (j k : ℕ) (q : Gate) → slice_get g.gates j ≡ Some q → slice_get g.gates k ≡ Some q → j ≡ k
  pub delays_once : (m n : ℕ) (d e : Delay) → slice_get g.delays m ≡ Some d → slice_get g.delays n ≡ Some e → d.from ≡ e.from → m ≡ n
