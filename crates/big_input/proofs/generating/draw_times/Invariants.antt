use Rattle.std.proofs.Common.{◌≡◌}
use Rattle.big_input.specs.Stream.{state}
use Rattle.big_input.specs.Generated.{times_below}
use Rattle.big_input.proofs.generating.draw_times.Given as goal

abbrev pub invariant-loop-input : goal.invariant-loop-input
invariant-loop-input l = record {
  drawn : l.draws ≡ state l.initial.draws l._input;
  times : l.times.items ≡ times_below l.initial.draws l._input;
}
