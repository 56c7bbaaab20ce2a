use Rattle.std.proofs.Common.{◌≡◌, ◌≤◌}
use Rattle.cycle_sim.specs.Standing.{output_level}
use Rattle.rl_flow.specs.Compared.{count_below}
use Rattle.rl_flow.proofs.comparing.count_high.Given as goal

abbrev pub invariant-loop-out : goal.invariant-loop-out
invariant-loop-out l = record {
  count : l.count ≡ count_below (output_level l.sim.state) l.out;
  few : l.count ≤ l.out;
}
