use Rattle.cycle_sim.proofs.Quiet.{quiet_next, quiet_view}
use Rattle.cycle_sim.proofs.sim.Sim.is_quiet.Goals as goal

pub returns : goal.returns
returns c = λ t s is.
    let m = c.self.inside.module.now in
    let i = c.self.invariant in
    let r = i.rests t in
    quiet_view c.args.self.now m c.self.inside.started c.self.inside.levels s c.self.view_is r.0
    (quiet_next m c.self.inside.levels c.self.inside.marks i.levels i.up_to_date (i.settled r.0) r.1) is
