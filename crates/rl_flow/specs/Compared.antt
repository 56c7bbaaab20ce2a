-- What the states of a module show of the times that are expected of its outputs.
use Rattle.std.specs.Prelude.{ℕ, zero, suc, ◌+◌, Bool, true, false, ◌&&◌, if◌then◌else◌, List, [], ◌∷◌, slice_index_or}
use Rattle.std.proofs.Math.Bool.{beq}
use Rattle.rl_time.specs.declared.time.Time.{Time}
use Rattle.rl_time.specs.Time.{has_risen}
use Rattle.net_model.specs.Value.{time_at}
use Rattle.circuit.specs.Meaning.{State}
use Rattle.cycle_sim.specs.Standing.{last_state, output_level}

-- how many of the numbers below n pass
abbrev pub count_below : (ℕ → Bool) → ℕ → ℕ
count_below passes zero = 0
count_below passes (suc n) = if passes n then count_below passes n + 1 else count_below passes n

-- whether in each of these states, from this cycle on, the output has the level of a wire that rises at this time
abbrev pub has_levels : ℕ → List State → Time → ℕ → Bool
has_levels cycle [] time out = true
has_levels cycle (s ∷ states) time out = beq (slice_index_or s.outs out false) (has_risen time cycle) && has_levels (suc cycle) states time out

-- whether the output has the levels of its time, from cycle 0 on
abbrev pub agrees : List State → List Time → ℕ → Bool
agrees states times out = has_levels 0 states (time_at times out) out

-- whether the output is high in the last of the states
abbrev pub is_high : List State → ℕ → Bool
is_high states out = output_level (last_state states) out
