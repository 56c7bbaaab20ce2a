use Rattle.std.proofs.Common.{◌≡◌, ◌+◌, ◌≤◌, ◌++◌, drop}
use Rattle.gate_lower.specs.Tapped.{latch_registers}
use Rattle.gate_lower.proofs.registers.push_latch_registers.Given as goal

abbrev pub invariant-loop-wire : goal.invariant-loop-wire
invariant-loop-wire l = record {
  rest : l.regs.items ++ latch_registers l.wire l.next (drop l.wire l.gates) ≡ l.initial.regs.items ++ latch_registers 0 l.first l.gates;
  few : l.next ≤ l.first + l.wire;
}
