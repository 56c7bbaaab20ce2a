-- What is emitted is the module of gates.
use Rattle.std.proofs.Common.{◌≡◌, ℕ, List, ◌++◌, length, ap, ◌∙◌}
use Rattle.std.specs.Prelude.{codes}
use Rattle.circuit.specs.Circuit.{Register, Assignment, circuit}
use Rattle.circuit.specs.Names.{numbered}
use Rattle.gate_lower.specs.declared.gates.Gate.{Gate}
use Rattle.gate_lower.specs.declared.gates.Delay.{Delay}
use Rattle.gate_lower.specs.Netlist.{Netlist}
use Rattle.gate_lower.specs.Rules.{output_names}
use Rattle.gate_lower.specs.Tapped.{delay_registers, latch_registers, tapped_module}

-- the parts are those of the module
pub module_is : (g : Netlist) (inputs outputs wires : List (List ℕ)) (regs : List Register) (assigns : List Assignment) → inputs ≡ g.inputs → outputs ≡ output_names g.outputs → wires ≡ numbered (codes "w") (length g.gates) →
    regs ≡ (tapped_module g).regs → assigns ≡ (tapped_module g).assigns → circuit inputs outputs wires regs assigns ≡ tapped_module g
module_is g inputs outputs wires regs assigns i o w r a =
    ap (λ z. circuit z outputs wires regs assigns) i ∙ (ap (λ z. circuit g.inputs z wires regs assigns) o ∙ (ap (λ z. circuit g.inputs (output_names g.outputs) z regs assigns) w
    ∙ (ap (λ z. circuit g.inputs (output_names g.outputs) (numbered (codes "w") (length g.gates)) z assigns) r ∙ ap (λ z. circuit g.inputs (output_names g.outputs) (numbered (codes "w") (length g.gates)) (tapped_module g).regs z) a)))

pub registers_are : (g : Netlist) (ds : List Delay) (qs : List Gate) (n : ℕ) (before after : List Register) → ds ≡ g.delays → qs ≡ g.gates → n ≡ length g.delays →
    before ≡ delay_registers 0 ds → after ≡ before ++ latch_registers 0 n qs → after ≡ (tapped_module g).regs
registers_are g ds qs n before after d q c b a =
    a ∙ (ap (λ z. z ++ latch_registers 0 n qs) (b ∙ ap (delay_registers 0) d)
    ∙ (ap (λ z. delay_registers 0 g.delays ++ latch_registers 0 z qs) c
    ∙ ap (λ z. delay_registers 0 g.delays ++ latch_registers 0 (length g.delays) z) q))
