use Rattle.std.proofs.Common.{◌∙◌, sym, subst, arith}
use Rattle.std.specs.List.{length_refill}
use Rattle.levels.specs.Levels.{HasAllLevels}
use Rattle.levels.proofs.Edges.{edge_keeps}
use Rattle.event_sim.proofs.events.Events.move_registers.Goals as goal

pub invariant_of-self : goal.invariant_of-self
invariant_of-self c =
    let m = c.self.inside.module.now in
    let i = c.self.invariant in
    let firsts = c.self.inside.firsts in
    let e = c.clock_edge-changed.ensures in
    record {
      levels = subst (λ z. HasAllLevels m z) (sym e.state) (edge_keeps m c.self.inside.levels i.levels);
      readers = i.readers;
      taps = i.taps;
      room = omega (arith, i.room, e.room);
      moving_room = omega (arith, i.moving_room, e.moving_room);
      next_room = sym (length_refill firsts.len firsts.items c.clock_edge-changed.new.firsts firsts.ok.0) ∙ (firsts.ok.0 ∙ i.next_room);
      none = e.none;
      up_to_date = e.up_to_date;
      at_start = λ no. absurd (cc);
    }
