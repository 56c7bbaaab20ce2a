-- Modules whose own names are letters and numbers.
use Rattle.std.specs.Prelude.{◌≡◌, ◌≢◌, ◌≤◌, codes, length, map, All, AllPairs, IsTrue}
use Rattle.circuit.specs.Circuit.{Circuit}
use Rattle.circuit.specs.Names.{is_port_name, numbered}

-- wires w0, w1, .. and registers r0, r1, .., not too many of them
pub record HasNumberedNames (m : Circuit) : Type 0 where
  pub few_wires : length m.wires ≤ 65536
  pub few_regs : length m.regs ≤ 65536
  pub wires : m.wires ≡ numbered (codes "w") (length m.wires)
  pub regs : map (λ r. r.name) m.regs ≡ numbered (codes "r") (length m.regs)

-- the inputs have different names that a port may have, and so have the outputs
pub record HasPortNames (m : Circuit) : Type 0 where
  pub inputs : All (λ name. IsTrue (is_port_name name)) m.inputs
  pub outputs : All (λ name. IsTrue (is_port_name name)) m.outputs
  pub distinct_inputs : AllPairs (λ a b. a ≢ b) m.inputs
  pub distinct_outputs : AllPairs (λ a b. a ≢ b) m.outputs
