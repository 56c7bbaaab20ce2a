use Rattle.std.proofs.Common.{◌≡◌, ◌++◌, drop}
use Rattle.rl_jobs.specs.Values.{value_lines}
use Rattle.rl_flow.proofs.equality.put_values.Given as goal

abbrev pub invariant-loop-place : goal.invariant-loop-place
invariant-loop-place l = l.text.items ++ value_lines (drop l.place l.names) (drop l.place l.times) ≡ l.fn.text.items ++ value_lines l.names l.times
