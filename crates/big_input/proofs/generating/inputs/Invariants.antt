use Rattle.std.proofs.Common.{◌≡◌, codes}
use Rattle.big_input.specs.Generated.{names_below}
use Rattle.big_input.proofs.generating.inputs.Given as goal

abbrev pub invariant-loop-place : goal.invariant-loop-place
invariant-loop-place l = l.names.items ≡ names_below (codes "i") l.place
