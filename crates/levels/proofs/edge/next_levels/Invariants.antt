use Rattle.std.proofs.Common.{◌≡◌, map, take}
use Rattle.circuit.specs.Meaning.{level}
use Rattle.levels.proofs.edge.next_levels.Given as goal

abbrev pub invariant-loop-place : goal.invariant-loop-place
invariant-loop-place l = take l.place l.firsts ≡ map (λ r. level l.levels r.next) (take l.place l.m.regs)
