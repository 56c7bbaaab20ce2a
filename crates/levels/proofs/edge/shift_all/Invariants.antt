use Rattle.std.proofs.Common.{◌≡◌, ◌≤◌}
use Rattle.levels.proofs.Edges.{Shifted}
use Rattle.levels.proofs.edge.shift_all.Given as goal

abbrev pub invariant-loop-reg : goal.invariant-loop-reg
invariant-loop-reg l = record {
  shifted : Shifted l.firsts l.fn.levels l.levels l.reg;
  changed : l.changed ≤ l.reg;
  still : l.changed ≡ 0 → l.levels ≡ l.fn.levels;
}
