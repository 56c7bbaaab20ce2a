use Rattle.std.proofs.Common.{length}
use Rattle.cycle_sim.specs.Operations.{plan}
use Rattle.cycle_sim.proofs.Planned.{sound_roomier}
use Rattle.cycle_sim.proofs.program.Program.place.Goals as goal

pub invariant_of-self : goal.invariant_of-self
invariant_of-self c =
    let s = c.self.inside in
    sound_roomier (plan s.places s.operations.items s.taps.items s.values.items) (length c.add_place.new.values.items) c.self.invariant
    c.add_place.ensures.more c.add_place.ensures.few
