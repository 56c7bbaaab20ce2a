use Rattle.std.proofs.Common.{◌≡◌, take}
use Rattle.cycle_sim.specs.Operations.{all_done}
use Rattle.cycle_sim.proofs.performing.perform.Given as goal

abbrev pub invariant-loop-operation : goal.invariant-loop-operation
invariant-loop-operation l = l.values ≡ all_done l.fn.values (take l.operation-index l.operations)
