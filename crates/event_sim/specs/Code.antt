-- How the logic stores the value of a simulation by activations.
use Rattle.std.specs.Prelude.{Bool, refl}
use Rattle.std.specs.Coded.{Coded, code_by, coded×, coded_bool}
use Rattle.circuit.specs.Circuit.{Circuit}
use Rattle.circuit.specs.Code.{circuit_code}
use Rattle.circuit.specs.Meaning.{State}
use Rattle.levels.specs.Code.{state_code}
use Rattle.event_sim.specs.Standing.{Standing}

abbrev pub standing_code : Coded Standing
standing_code =
    code_by (Circuit × (Bool × State)) (coded× circuit_code (coded× coded_bool state_code)) (λ s. (s.circuit, (s.started, s.state)))
    (λ p. record { circuit = p.0; started = p.1.0; state = p.1.1 })
    (λ _. refl)
