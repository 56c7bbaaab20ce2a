use Rattle.cycle_sim.specs.Operations.{IsPlanOfFirst}
use Rattle.cycle_sim.proofs.compiling.compile.Given as goal

abbrev pub invariant-loop-assign : goal.invariant-loop-assign
invariant-loop-assign l = IsPlanOfFirst l.m l.assign-index l.program
