use Rattle.std.proofs.Common.{take}
use Rattle.func_table.specs.Sound.{AreSound}
use Rattle.causality.proofs.checking.check_pairs.Given as goal

abbrev pub invariant-loop-later : goal.invariant-loop-later
invariant-loop-later l = AreSound (take l.later l.t.rows)
