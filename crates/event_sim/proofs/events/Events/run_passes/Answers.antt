use Rattle.std.proofs.Common.{length, sym, ◌∙◌, subst, arith}
use Rattle.circuit.proofs.Settling.{Keeps}
use Rattle.event_sim.specs.Orders.{numbered_order}
use Rattle.event_sim.proofs.Rounds.{passes_keep, keeps_all}
use Rattle.event_sim.proofs.events.Events.run_passes.Goals as goal

pub invariant_of-self : goal.invariant_of-self
invariant_of-self c =
    let m = c.self.inside.module.now in
    let i = c.self.invariant in
    let p = c.run_passes.ensures.passes in
    let k : Keeps c.self.inside.levels c.run_passes.new.levels =
    subst (λ z. Keeps c.self.inside.levels z) (sym p.state) (passes_keep m (numbered_order (length m.assigns) c.args.order) p.changing c.self.inside.levels) in
    record {
      levels = keeps_all m c.self.inside.levels c.run_passes.new.levels k i.levels;
      readers = i.readers;
      taps = i.taps;
      room = omega (arith, i.room, c.run_passes.ensures.room);
      moving_room = i.moving_room;
      next_room = i.next_room;
      none = i.none;
      up_to_date = c.run_passes.ensures.up_to_date;
      at_start = λ e. sym k.regs ∙ i.at_start e;
    }
