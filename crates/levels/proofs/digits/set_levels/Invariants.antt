use Rattle.std.proofs.Common.{◌≡◌, map, take}
use Rattle.rl_time.specs.Time.{has_risen}
use Rattle.levels.proofs.digits.set_levels.Given as goal

abbrev pub invariant-loop-place : goal.invariant-loop-place
invariant-loop-place l = take l.place l.levels ≡ map (λ a. has_risen a l.cycle) (take l.place l.rises)
