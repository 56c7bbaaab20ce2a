use Rattle.std.proofs.Common.{◌≡◌, map, take}
use Rattle.causality.specs.Window.{entry_at}
use Rattle.causality.proofs.tabulation.row_at.Given as goal

abbrev pub invariant-loop-time : goal.invariant-loop-time
invariant-loop-time l = l.entries.items ≡ map (entry_at l.out) (take l.time-index l.list)
