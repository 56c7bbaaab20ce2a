use Rattle.std.proofs.Common.{◌≡◌, take}
use Rattle.gate_lower.specs.Rules.{output_names}
use Rattle.gate_lower.proofs.names.output_names.Given as goal

abbrev pub invariant-loop-output : goal.invariant-loop-output
invariant-loop-output l = l.names.items ≡ output_names (take l.output-index l.outputs)
