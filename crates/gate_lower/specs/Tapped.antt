-- The module of gates: a shift register for each delay, tap c of which is bit c - 1, then a register of one bit for each latch.
use Rattle.std.specs.Prelude.{ℕ, suc, ◌+◌, ◌-◌, List, [], ◌∷◌, ◌++◌, length, codes}
use Rattle.circuit.specs.declared.bit.Target.TheVariants as target
use Rattle.circuit.specs.Circuit.{Logic, Zero, Input, Wire, Reg, Not, And, Or, Assignment, Register, Circuit, circuit}
use Rattle.circuit.specs.Names.{numbered_name, numbered}
use Rattle.gate_lower.specs.declared.gates.Line.{Line}
use Rattle.gate_lower.specs.declared.gates.Line.TheVariants as line
use Rattle.gate_lower.specs.declared.gates.Gate.{Gate}
use Rattle.gate_lower.specs.declared.gates.Gate.TheVariants as gate
use Rattle.gate_lower.specs.declared.gates.Delay.{Delay}
use Rattle.gate_lower.specs.Netlist.{Output, Netlist}
use Rattle.gate_lower.specs.Rules.{latch_bits, output_names}

-- the bit that a line is: register n is that of delay n, and its bit c - 1 is the tap c
abbrev pub operand : Line → Logic
operand line.Low = Zero
operand (line.Input i) = Input i
operand (line.Gate k) = Wire k
operand (line.Tap n c) = Reg n (c - 1)

-- the expression of a gate; a latch holds its level in register h: h | (p & ~q)
abbrev pub gate_logic : ℕ → Gate → Logic
gate_logic h (gate.Or p q) = Or (operand p) (operand q)
gate_logic h (gate.And p q) = And (operand p) (operand q)
gate_logic h (gate.Latch p q) = Or (Reg h 0) (And (operand p) (Not (operand q)))

-- r with a number
abbrev pub register_name : ℕ → List ℕ
register_name h = numbered_name (codes "r") h

-- the register of delay n: as many bits as the delay has cycles, and bit 0 takes the delay's line
abbrev pub delay_register : ℕ → Delay → Register
delay_register n d = record { name = register_name n; width = d.width; next = operand d.from }

-- the registers of the delays from number n on
abbrev pub delay_registers : ℕ → List Delay → List Register
delay_registers n [] = []
delay_registers n (d ∷ delays) = delay_register n d ∷ delay_registers (suc n) delays

-- register h of gate k, where it is a latch: it takes the gate's wire
abbrev pub latch_register : ℕ → ℕ → Gate → List Register
latch_register k h (gate.Or p q) = []
latch_register k h (gate.And p q) = []
latch_register k h (gate.Latch p q) = record { name = register_name h; width = 1; next = Wire k } ∷ []

-- the registers of the latches among the gates from number k on, from register h on
abbrev pub latch_registers : ℕ → ℕ → List Gate → List Register
latch_registers k h [] = []
latch_registers k h (q ∷ gates) = latch_register k h q ++ latch_registers (suc k) (h + latch_bits q) gates

-- the assigns of the gates from number k on, the latches of which hold their levels from register h on
abbrev pub gate_assigns : ℕ → ℕ → List Gate → List Assignment
gate_assigns k h [] = []
gate_assigns k h (q ∷ gates) = record { target = target.Wire k; bit = gate_logic h q } ∷ gate_assigns (suc k) (h + latch_bits q) gates

-- the assigns of the outputs from number o on
abbrev pub output_assigns : ℕ → List Output → List Assignment
output_assigns o [] = []
output_assigns o (l ∷ outputs) = record { target = target.Out o; bit = operand l.line } ∷ output_assigns (suc o) outputs

-- wires w0, w1, .. are the gates in order, and registers r0, r1, .. first the delays in order and then the latches
abbrev pub tapped_module : Netlist → Circuit
tapped_module g =
    circuit g.inputs (output_names g.outputs) (numbered (codes "w") (length g.gates))
    (delay_registers 0 g.delays ++ latch_registers 0 (length g.delays) g.gates)
    (gate_assigns 0 (length g.delays) g.gates ++ output_assigns 0 g.outputs)
