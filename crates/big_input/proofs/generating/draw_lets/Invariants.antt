use Rattle.std.proofs.Common.{◌≡◌, ◌*◌}
use Rattle.big_input.specs.Stream.{state}
use Rattle.big_input.specs.Generated.{lets_below}
use Rattle.big_input.proofs.generating.draw_lets.Given as goal

abbrev pub invariant-loop-place : goal.invariant-loop-place
invariant-loop-place l = record {
  drawn : l.draws ≡ state l.initial.draws (3 * l.place);
  lets : l.lets.items ≡ lets_below l.initial.draws l.place;
}
