-- What a clock edge keeps.
use Rattle.std.proofs.Common.{◌≡◌, Bool, true, false, List, length, ap, ◌∙◌}
use Rattle.circuit.specs.Circuit.{Circuit}
use Rattle.circuit.specs.Meaning.{State}
use Rattle.levels.specs.Levels.{HasAllLevels}
use Rattle.levels.proofs.Edges.{edge_keeps}
use Rattle.event_sim.specs.Standing.{edge_after}

pub keeps_levels : (m : Circuit) (started : Bool) (s : State) (inputs : List Bool) → HasAllLevels m s → length inputs ≡ length m.inputs → HasAllLevels m (edge_after m started s inputs)
keeps_levels m false s inputs h long = record { inputs = long; regs = h.regs; rest = record { wires = h.rest.wires; outs = h.rest.outs } }
keeps_levels m true s inputs h long =
    let e = edge_keeps m s h in
    record { inputs = long; regs = e.regs; rest = record { wires = h.rest.wires; outs = h.rest.outs } }

pub first_keeps : (m : Circuit) (started : Bool) (s : State) (inputs : List Bool) → started ≡ false → (edge_after m started s inputs).regs ≡ s.regs
first_keeps m started s inputs e = ap (λ z. (edge_after m z s inputs).regs) e

-- registers first, then inputs
pub both_after : (m : Circuit) (started : Bool) (s s' s'' : State) (inputs : List Bool) → s' ≡ edge_after m started s s.inputs → s'' ≡ record s' { inputs = inputs } →
    s'' ≡ edge_after m started s inputs
both_after m false s s' s'' inputs a b = b ∙ ap (λ z. let w : State = record z { inputs = inputs } in w) a
both_after m true s s' s'' inputs a b = b ∙ ap (λ z. let w : State = record z { inputs = inputs } in w) a

pub same_inputs : (s s' : State) (inputs : List Bool) → s' ≡ record s { inputs = inputs } → inputs ≡ s.inputs → s' ≡ s
same_inputs s s' inputs a e = a ∙ ap (λ z. let w : State = record s { inputs = z } in w) e
