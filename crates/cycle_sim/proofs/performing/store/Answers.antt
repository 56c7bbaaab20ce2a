use Rattle.std.proofs.Common.{◌∙◌, ◌+◌, ◌-◌, ap, refl, take, drop, arith}
use Rattle.circuit.specs.Meaning.{State}
use Rattle.cycle_sim.proofs.Loaded.{stored}
use Rattle.cycle_sim.proofs.performing.store.Goals as goal

pub returns : goal.returns
returns c = λ s laid inputs regs.
    let places = c.args.places in
    let wires = 1 + places.inputs in
    let outs = wires + places.wires in
    let values = c.args.values.now in
    stored places s c.args.levels.now c.set_outs.new.self values wires outs (outs - wires) (outs + places.outs - outs) refl refl (omega arith) (omega arith)
    c.requires.room laid inputs regs
    (c.set_outs.ensures ∙ ap (λ (z : State). record z { outs = take (outs + places.outs - outs) (drop outs values) }) c.set_wires.ensures)
