use Rattle.std.proofs.Common.{◌-◌, ◌≤◌, vec_capacity}
use Rattle.cycle_sim.proofs.Grown.{HaveRun}
use Rattle.cycle_sim.proofs.running.simulate.Given as goal

abbrev pub invariant-loop-cycle : goal.invariant-loop-cycle
invariant-loop-cycle l = record {
  run : HaveRun (λ row. row.items) (λ row. vec_capacity row) l.m l.rises l.cycles l.cycle l.sim.circuit l.sim.state l.levels.items l.rows.items;
  within : l.cycle ≤ l.cycles;
}

abbrev pub decreases-loop-cycle : goal.decreases-loop-cycle
decreases-loop-cycle l = l.cycles - l.cycle
