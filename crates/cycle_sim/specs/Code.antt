-- How the logic stores the value of a simulation.
use Rattle.std.specs.Prelude.{Option, refl}
use Rattle.std.specs.Coded.{Coded, code_by, coded×, coded_option}
use Rattle.circuit.specs.Circuit.{Circuit}
use Rattle.circuit.specs.Code.{circuit_code}
use Rattle.circuit.specs.Meaning.{State}
use Rattle.levels.specs.Code.{state_code}
use Rattle.cycle_sim.specs.Standing.{Standing}

abbrev pub standing_code : Coded Standing
standing_code =
    code_by (Circuit × Option State) (coded× circuit_code (coded_option state_code)) (λ s. (s.circuit, s.state))
    (λ p. record { circuit = p.0; state = p.1 })
    (λ _. refl)
