use Rattle.std.proofs.Common.{◌≡◌, ◌+◌, ◌≤◌, ◌++◌, drop}
use Rattle.gate_lower.specs.Tapped.{gate_assigns}
use Rattle.gate_lower.proofs.bits.gate_assigns.Given as goal

abbrev pub invariant-loop-wire : goal.invariant-loop-wire
invariant-loop-wire l = record {
  rest : l.assigns.items ++ gate_assigns l.wire l.register (drop l.wire l.gates) ≡ gate_assigns 0 l.first l.gates;
  few : l.register ≤ l.first + l.wire;
}
