use Rattle.std.proofs.Common.{◌-◌, ◌≤◌, length, vec_capacity}
use Rattle.event_sim.specs.Orders.{numbered_order}
use Rattle.event_sim.proofs.Cycles.{HaveRun}
use Rattle.event_sim.proofs.run.simulate.Given as goal

abbrev pub invariant-loop-cycle : goal.invariant-loop-cycle
invariant-loop-cycle l = record {
  run : HaveRun (λ row. row.items) (λ row. vec_capacity row) l.m (numbered_order (length l.m.assigns) l.order) l.rises l.cycles l.cycle l.events l.inputs.items l.rows.items l.activations;
  within : l.cycle ≤ l.cycles;
}

abbrev pub decreases-loop-cycle : goal.decreases-loop-cycle
decreases-loop-cycle l = l.cycles - l.cycle
