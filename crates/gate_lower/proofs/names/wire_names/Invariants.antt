use Rattle.std.proofs.Common.{◌≡◌, codes}
use Rattle.circuit.specs.Names.{numbered}
use Rattle.gate_lower.proofs.names.wire_names.Given as goal

abbrev pub invariant-loop-number : goal.invariant-loop-number
invariant-loop-number l = l.names.items ≡ numbered (codes "w") l.number
