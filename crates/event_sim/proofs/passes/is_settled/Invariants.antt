use Rattle.std.proofs.Common.{◌≡◌, ◌<◌, ℕ, Some}
use Rattle.std.specs.Prelude.{slice_get}
use Rattle.circuit.specs.Circuit.{Assignment}
use Rattle.circuit.specs.Meaning.{at, level}
use Rattle.event_sim.proofs.passes.is_settled.Given as goal

abbrev pub invariant-loop-assign : goal.invariant-loop-assign
invariant-loop-assign l = (k : ℕ) (a : Assignment) → k < l.assign-index → slice_get l.m.assigns k ≡ Some a → at l.levels a.target ≡ level l.levels a.bit
