use Rattle.std.proofs.Common.{◌∙◌, ap, length}
use Rattle.circuit.specs.Meaning.{State}
use Rattle.cycle_sim.specs.Standing.{Standing}
use Rattle.cycle_sim.proofs.Quiet.{levels_are}
use Rattle.cycle_sim.proofs.sim.Sim.outs.Goals as goal

pub returns-clause-levels : goal.returns-clause-levels
returns-clause-levels c = λ s is. c.outs.ensures ∙ ap (λ (z : State). z.outs) (levels_are c.args.self.now c.self.inside.module.now c.self.inside.started c.self.inside.levels s c.self.view_is is)

pub returns-clause-count : goal.returns-clause-count
returns-clause-count c = ap (λ z. length z) c.outs.ensures ∙ (c.self.invariant.levels.rest.outs ∙ ap (λ (z : Standing). length z.circuit.outputs) c.self.view_is)
