use Rattle.std.proofs.Common.{◌≡◌, length}
use Rattle.term_store.specs.Steps.{step_nodes}
use Rattle.term_store.proofs.Numbers.{AreNumbers}
use Rattle.term_store.proofs.times.run.Given as goal

abbrev pub invariant-loop-place : goal.invariant-loop-place
invariant-loop-place l = record {
  room : length l.numbers ≡ length l.fn.numbers;
  numbers : AreNumbers l.x (step_nodes l.steps) l.place l.numbers;
}
