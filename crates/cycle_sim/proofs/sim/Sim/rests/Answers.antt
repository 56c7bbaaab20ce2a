use Rattle.cycle_sim.proofs.Quiet.{quiet_next, quiet_step}
use Rattle.cycle_sim.proofs.sim.Sim.rests.Goals as goal

pub returns-then-self-clause-next_cycle : goal.returns-then-self-clause-next_cycle
returns-then-self-clause-next_cycle c = λ t.
    let m = c.self.inside.module.now in
    let i = c.self.invariant in
    let r = i.rests c.if-self.true in
    (quiet_step c.args.self.now m c.self.inside.started c.self.inside.levels c.args.inputs.now c.self.view_is r.0
    (quiet_next m c.self.inside.levels c.self.inside.marks i.levels i.up_to_date (i.settled r.0) r.1) (c.has_inputs.ensures t)).0

pub returns-then-self-clause-in_a_cycle : goal.returns-then-self-clause-in_a_cycle
returns-then-self-clause-in_a_cycle c = λ t.
    let m = c.self.inside.module.now in
    let i = c.self.invariant in
    let r = i.rests c.if-self.true in
    (quiet_step c.args.self.now m c.self.inside.started c.self.inside.levels c.args.inputs.now c.self.view_is r.0
    (quiet_next m c.self.inside.levels c.self.inside.marks i.levels i.up_to_date (i.settled r.0) r.1) (c.has_inputs.ensures t)).1
