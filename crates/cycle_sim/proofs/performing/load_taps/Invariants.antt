use Rattle.cycle_sim.proofs.Loaded.{Loading}
use Rattle.cycle_sim.proofs.performing.load_taps.Given as goal

abbrev pub invariant-loop-tap : goal.invariant-loop-tap
invariant-loop-tap l = Loading l.taps l.levels l.fn.values l.values l.tap-index
