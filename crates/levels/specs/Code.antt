-- How the logic stores a state.
use Rattle.std.specs.Prelude.{Bool, List, refl}
use Rattle.std.specs.Coded.{Coded, code_by, coded×, coded_bool, coded_list}
use Rattle.circuit.specs.Meaning.{State}

abbrev pub row_code : Coded (List Bool)
row_code = coded_list coded_bool

abbrev pub state_code : Coded State
state_code =
    code_by (List Bool × (List (List Bool) × (List Bool × List Bool)))
    (coded× row_code (coded× (coded_list row_code) (coded× row_code row_code)))
    (λ s. (s.inputs, (s.regs, (s.wires, s.outs))))
    (λ p. record { inputs = p.0; regs = p.1.0; wires = p.1.1.0; outs = p.1.1.1 })
    (λ _. refl)
