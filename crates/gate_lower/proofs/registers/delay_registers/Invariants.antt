use Rattle.std.proofs.Common.{◌≡◌, ◌++◌, drop}
use Rattle.gate_lower.specs.Tapped.{delay_registers}
use Rattle.gate_lower.proofs.registers.delay_registers.Given as goal

abbrev pub invariant-loop-number : goal.invariant-loop-number
invariant-loop-number l = l.regs.items ++ delay_registers l.number (drop l.number l.delays) ≡ delay_registers 0 l.delays
