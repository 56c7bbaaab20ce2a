-- The times of gates and delays: a set of equations, and no recursion.
use Rattle.std.specs.Prelude.{◌≡◌, ℕ, ◌<◌, false, List, length, map, slice_get, slice_index_or, Some}
use Rattle.rl_time.specs.declared.time.Time.{Time}
use Rattle.rl_time.specs.declared.time.Time.TheVariants.{Never}
use Rattle.rl_time.specs.Time.{time_min, time_max, time_lt, time_inc, has_risen}
use Rattle.term_store.specs.Tree.{Tree, value}
use Rattle.circuit.specs.Circuit.{Circuit}
use Rattle.circuit.specs.Meaning.{State, IsHistory, levels_from}
use Rattle.gate_lower.specs.declared.gates.Line.{Line}
use Rattle.gate_lower.specs.declared.gates.Line.TheVariants as line
use Rattle.gate_lower.specs.declared.gates.Gate.{Gate}
use Rattle.gate_lower.specs.declared.gates.Gate.TheVariants as gate
use Rattle.gate_lower.specs.declared.gates.Delay.{Delay}
use Rattle.gate_lower.specs.Netlist.{Output, Netlist}
use Rattle.gate_lower.specs.Rules.{output_names}

-- the time of a line, by the times x of the inputs and the times of the gates and of the delays
abbrev pub line_time : List Time → (ℕ → Time) → (ℕ → Time) → Line → Time
line_time x gates delays line.Low = Never
line_time x gates delays (line.Input i) = slice_index_or x i Never
line_time x gates delays (line.Gate k) = gates k
line_time x gates delays (line.Tap n c) = time_inc (delays n) c

-- the time of a gate, by those of its operands
abbrev pub gate_time : List Time → (ℕ → Time) → (ℕ → Time) → Gate → Time
gate_time x gates delays (gate.Or p q) = time_min (line_time x gates delays p) (line_time x gates delays q)
gate_time x gates delays (gate.And p q) = time_max (line_time x gates delays p) (line_time x gates delays q)
gate_time x gates delays (gate.Latch p q) = time_lt (line_time x gates delays p) (line_time x gates delays q)

-- a timing: each gate has the time of its operator, and each delay that of the line that feeds it
pub record IsTiming (g : Netlist) (x : List Time) (gates delays : ℕ → Time) : Type 0 where
  pub each_gate : (k : ℕ) (q : Gate) → slice_get g.gates k ≡ Some q → gates k ≡ gate_time x gates delays q
  pub each_delay : (n : ℕ) (d : Delay) → slice_get g.delays n ≡ Some d → delays n ≡ line_time x gates delays d.from

-- the gates have a timing at these input times
abbrev pub HasTiming : Netlist → List Time → Type 0
HasTiming g x = (gates : ℕ → Time) × (delays : ℕ → Time) × IsTiming g x gates delays

-- any two timings agree on every gate and every delay
abbrev pub TimingsAgree : Netlist → List Time → Type 0
TimingsAgree g x = (gates delays gates' delays' : ℕ → Time) → IsTiming g x gates delays → IsTiming g x gates' delays' →
    ((k : ℕ) → k < length g.gates → gates k ≡ gates' k) × ((n : ℕ) → n < length g.delays → delays n ≡ delays' n)

-- in a cycle each gate's wire is high exactly where its time is at most the cycle, and each output where its line's time is
pub record IsRightAt (g : Netlist) (x : List Time) (gates delays : ℕ → Time) (cycle : ℕ) (s : State) : Type 0 where
  pub wires : (k : ℕ) (q : Gate) → slice_get g.gates k ≡ Some q → slice_index_or s.wires k false ≡ has_risen (gates k) cycle
  pub outs : (o : ℕ) (l : Output) → slice_get g.outputs o ≡ Some l → slice_index_or s.outs o false ≡ has_risen (line_time x gates delays l.line) cycle

-- time is level: so it is in every cycle of every history of the module, for every timing under all input times
abbrev pub TimeIsLevel : Netlist → Circuit → Type 0
TimeIsLevel g m = (x : List Time) (gates delays : ℕ → Time) → IsTiming g x gates delays →
    (cycles : ℕ) (states : List State) → IsHistory m (levels_from x 0 cycles) states →
    (cycle : ℕ) (s : State) → slice_get states cycle ≡ Some s → IsRightAt g x gates delays cycle s

-- the gates of terms: they have these names, and under all input times a timing in which the outputs have the terms' values
pub record AreGatesOf (inputs outputs : List (List ℕ)) (trees : List Tree) (g : Netlist) : Type 0 where
  pub inputs_are : g.inputs ≡ inputs
  pub outputs_are : output_names g.outputs ≡ outputs
  pub timed : (x : List Time) → (gates : ℕ → Time) × (delays : ℕ → Time) × IsTiming g x gates delays
      × (map (λ o. line_time x gates delays o.line) g.outputs ≡ map (value x) trees)
