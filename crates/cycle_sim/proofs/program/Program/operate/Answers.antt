use Rattle.cycle_sim.proofs.Planned.{sound_operation}
use Rattle.cycle_sim.proofs.program.Program.operate.Goals as goal

pub invariant_of-self-2 : goal.invariant_of-self-2
invariant_of-self-2 c =
    let s = c.self.inside in
    sound_operation s.places s.operations.items c.push.new.self.items s.taps.items s.values.items c.args.self.now c.args.to c.args.formula c.self.view_is
    c.self.invariant c.requires.place c.requires.within c.requires.apart c.in_ok-push.ensures.items
