use Rattle.std.proofs.Common.{◌≡◌, ◌++◌, drop, map}
use Rattle.rl_flow.specs.Levels.{level_lines}
use Rattle.rl_flow.proofs.sim.level_lines.Given as goal

abbrev pub invariant-loop-place : goal.invariant-loop-place
invariant-loop-place l = l.text.items ++ level_lines (drop l.place l.names) (map (λ row. row.items) (drop l.place l.rows)) ≡ level_lines l.names (map (λ row. row.items) l.rows)
