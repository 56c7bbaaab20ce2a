use Rattle.std.proofs.Common.{◌≡◌}
use Rattle.big_input.specs.Generated.{outputs_below}
use Rattle.big_input.proofs.generating.outputs.Given as goal

abbrev pub invariant-loop-place : goal.invariant-loop-place
invariant-loop-place l = l.outputs.items ≡ outputs_below l.fn.lets l.place
