-- Gates as a value, without where their parts lie in memory.
use Rattle.std.specs.Prelude.{ℕ, List}
use Rattle.gate_lower.specs.declared.gates.Line.{Line}
use Rattle.gate_lower.specs.declared.gates.Gate.{Gate}
use Rattle.gate_lower.specs.declared.gates.Delay.{Delay}

-- an output: its name, without a prefix, and where it comes from
pub record Output : Type 0 where
  pub name : List ℕ
  pub line : Line

pub record Netlist : Type 0 where
  pub inputs : List (List ℕ)
  pub outputs : List Output
  pub gates : List Gate
  pub delays : List Delay

abbrev pub netlist : List (List ℕ) → List Output → List Gate → List Delay → Netlist
netlist inputs outputs gates delays = record { inputs = inputs; outputs = outputs; gates = gates; delays = delays }
