use Rattle.std.proofs.Common.{◌≡◌, map, take}
use Rattle.circuit.specs.Meaning.{row_at_start}
use Rattle.levels.proofs.levels.low_rows.Given as goal

abbrev pub invariant-loop-reg : goal.invariant-loop-reg
invariant-loop-reg l = l.rows.items ≡ map row_at_start (take l.reg-index l.regs)
