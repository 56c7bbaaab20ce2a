-- In the text of a module of gates few `~` and `(` are nested.
use Rattle.std.proofs.Common.{◌≡◌, ℕ, suc, ◌+◌, ◌≤◌, false, List, [], ◌∷◌, length, refl, arith}
use Rattle.std.specs.Prelude.{All}
use Rattle.std.proofs.lemmas.List.Elements.{All-append, All-nil, All-cons}
use Rattle.circuit.specs.Circuit.{Assignment, Register}
use Rattle.circuit.specs.Depth.{is_compound}
use Rattle.circuit.specs.Depth.{depth, IsShallow}
use Rattle.gate_lower.specs.declared.gates.Line.{Line}
use Rattle.gate_lower.specs.declared.gates.Line.TheVariants as line
use Rattle.gate_lower.specs.declared.gates.Gate.{Gate}
use Rattle.gate_lower.specs.declared.gates.Gate.TheVariants as gate
use Rattle.gate_lower.specs.declared.gates.Delay.{Delay}
use Rattle.gate_lower.specs.Netlist.{Output, Netlist}
use Rattle.gate_lower.specs.Rules.{latch_bits}
use Rattle.gate_lower.specs.Tapped.{operand, gate_logic, delay_registers, latch_register, latch_registers, gate_assigns, output_assigns, tapped_module}

flat : (l : Line) → (depth (operand l) ≡ 0) × (is_compound (operand l) ≡ false)
flat line.Low = (refl, refl)
flat (line.Input i) = (refl, refl)
flat (line.Gate k) = (refl, refl)
flat (line.Tap n c) = (refl, refl)

gate_depth : (h : ℕ) (q : Gate) → depth (gate_logic h q) ≤ 64
gate_depth h (gate.Or p q) = rw ((flat p).1, (flat p).0, (flat q).1, (flat q).0) (omega arith)
gate_depth h (gate.And p q) = rw ((flat p).1, (flat p).0, (flat q).1, (flat q).0) (omega arith)
gate_depth h (gate.Latch p q) = rw ((flat p).1, (flat p).0, (flat q).1, (flat q).0) (omega arith)

line_depth : (l : Line) → depth (operand l) ≤ 64
line_depth l = rw ((flat l).0) (omega arith)

abbrev IsLow : Assignment → Type 0
IsLow a = depth a.bit ≤ 64

abbrev IsLowRegister : Register → Type 0
IsLowRegister r = depth r.next ≤ 64

gates_low : (k h : ℕ) (gates : List Gate) → All IsLow (gate_assigns k h gates)
gates_low k h [] = All-nil IsLow
gates_low k h (q ∷ gates) = All-cons IsLow _ _ (gate_depth h q) (gates_low (suc k) (h + latch_bits q) gates)

outputs_low : (o : ℕ) (outputs : List Output) → All IsLow (output_assigns o outputs)
outputs_low o [] = All-nil IsLow
outputs_low o (l ∷ outputs) = All-cons IsLow _ _ (line_depth l.line) (outputs_low (suc o) outputs)

delays_low : (n : ℕ) (delays : List Delay) → All IsLowRegister (delay_registers n delays)
delays_low n [] = All-nil IsLowRegister
delays_low n (d ∷ delays) = All-cons IsLowRegister _ _ (line_depth d.from) (delays_low (suc n) delays)

latch_low : (k h : ℕ) (q : Gate) → All IsLowRegister (latch_register k h q)
latch_low k h (gate.Or p q) = All-nil IsLowRegister
latch_low k h (gate.And p q) = All-nil IsLowRegister
latch_low k h (gate.Latch p q) = All-cons IsLowRegister _ [] (omega arith) (All-nil IsLowRegister)

latches_low : (k h : ℕ) (gates : List Gate) → All IsLowRegister (latch_registers k h gates)
latches_low k h [] = All-nil IsLowRegister
latches_low k h (q ∷ gates) =
    All-append IsLowRegister (latch_register k h q) (latch_registers (suc k) (h + latch_bits q) gates) (latch_low k h q) (latches_low (suc k) (h + latch_bits q) gates)

pub shallow : (g : Netlist) → IsShallow (tapped_module g)
shallow g = record {
  assigns = All-append IsLow (gate_assigns 0 (length g.delays) g.gates) (output_assigns 0 g.outputs)
      (gates_low 0 (length g.delays) g.gates) (outputs_low 0 g.outputs);
  regs = All-append IsLowRegister (delay_registers 0 g.delays) (latch_registers 0 (length g.delays) g.gates)
      (delays_low 0 g.delays) (latches_low 0 (length g.delays) g.gates);
}
