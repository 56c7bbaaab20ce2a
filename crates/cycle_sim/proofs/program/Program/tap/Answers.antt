use Rattle.std.proofs.Common.{length, sym, subst}
use Rattle.cycle_sim.specs.Operations.{plan, IsSound}
use Rattle.cycle_sim.proofs.Planned.{sound_roomier, sound_tap}
use Rattle.cycle_sim.proofs.program.Program.tap.Goals as goal

pub invariant_of-self : goal.invariant_of-self
invariant_of-self c =
    let s = c.self.inside in
    sound_roomier (plan s.places s.operations.items s.taps.items s.values.items) (length c.add_place.new.values.items) c.self.invariant
    c.add_place.ensures.more c.add_place.ensures.few

pub invariant_of-self-in_err-push : goal.invariant_of-self-in_err-push
invariant_of-self-in_err-push c =
    let s = c.self.inside in
    subst (λ z. IsSound (plan s.places s.operations.items z c.add_place.new.values.items)) (sym c.in_err-push.ensures.items)
    (sound_roomier (plan s.places s.operations.items s.taps.items s.values.items) (length c.add_place.new.values.items) c.self.invariant
    c.add_place.ensures.more c.add_place.ensures.few)

pub invariant_of-self-2 : goal.invariant_of-self-2
invariant_of-self-2 c =
    let s = c.self.inside in
    sound_tap s.places s.operations.items s.taps.items c.push.new.self.items s.values.items c.add_place.new.values.items c.in_ok-to.to c.args.reg c.args.bit
    c.self.invariant c.in_ok-to.ensures.place c.in_ok-push.ensures.items c.in_ok-to.ensures.room c.add_place.ensures.few
