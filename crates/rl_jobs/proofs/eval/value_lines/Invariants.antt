use Rattle.std.proofs.Common.{◌≡◌, ◌++◌, drop}
use Rattle.net_model.specs.Rules.{names_of}
use Rattle.rl_jobs.specs.Values.{value_lines}
use Rattle.rl_jobs.proofs.eval.value_lines.Given as goal

abbrev pub invariant-loop-place : goal.invariant-loop-place
invariant-loop-place l = l.text.items ++ value_lines (names_of (drop l.place l.outputs)) (drop l.place l.times) ≡ value_lines (names_of l.outputs) l.times
