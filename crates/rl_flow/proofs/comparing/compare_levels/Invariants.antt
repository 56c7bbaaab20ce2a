use Rattle.std.proofs.Common.{◌≡◌, ◌<◌, ◌≤◌, ℕ, false, ◌&&◌, length}
use Rattle.std.specs.Prelude.{slice_index_or}
use Rattle.std.proofs.Math.Bool.{beq}
use Rattle.rl_time.specs.Time.{has_risen}
use Rattle.net_model.specs.Value.{time_at}
use Rattle.cycle_sim.specs.Standing.{output_level}
use Rattle.rl_flow.proofs.comparing.compare_levels.Given as goal

abbrev pub invariant-loop-out : goal.invariant-loop-out
invariant-loop-out l = record {
  done : (k : ℕ) → k < l.out → slice_index_or l.marks k false ≡ (slice_index_or l.fn.marks k false && beq (output_level l.sim.state k) (has_risen (time_at l.expected k) l.cycle));
  waits : (k : ℕ) → l.out ≤ k → slice_index_or l.marks k false ≡ slice_index_or l.fn.marks k false;
  count : length l.marks ≡ length l.fn.marks;
}
