use Rattle.std.proofs.Common.{◌≡◌, ◌≤◌, ◌∙◌, ap, sym, subst, length}
use Rattle.std.proofs.lemmas.Result.{IfOk-weaker}
use Rattle.circuit.specs.Circuit.{Circuit}
use Rattle.circuit.specs.Circuit as circuit
use Rattle.circuit.specs.Depth.{IsShallow}
use Rattle.circuit.specs.Repeats.{HasNoRepeatedGate}
use Rattle.verilog_text.specs.Text.{module_text}
use Rattle.gate_lower.specs.Rules as rules
use Rattle.gate_lower.proofs.Repeats.{no_repeated_gate}
use Rattle.gate_lower.proofs.Shallow.{shallow}
use Rattle.gate_lower.proofs.TextLength.{is_short}
use Rattle.gate_lower.proofs.Validity.{wire_count, bit_count}
use Rattle.gate_lower.specs.Timing.{TimeIsLevel}
use Rattle.gate_lower.specs.Tapped.{tapped_module}
use Rattle.gate_lower.proofs.TappedForm.{time_is_level}
use Rattle.gate_lower.proofs.emitting.emit.Goals as goal

pub returns-clause-levels : goal.returns-clause-levels
returns-clause-levels c =
    let g = c.args.g.now in
    IfOk-weaker c.build.result (λ (m : Circuit). m ≡ tapped_module g) (TimeIsLevel g) (λ m e. subst (TimeIsLevel g) (sym e) (time_is_level g c.rules.ensures)) c.build.ensures

pub returns-clause-no_repeated_gate : goal.returns-clause-no_repeated_gate
returns-clause-no_repeated_gate c =
    let g = c.args.g.now in
    IfOk-weaker c.build.result (λ (m : Circuit). m ≡ tapped_module g) HasNoRepeatedGate (λ m e. subst HasNoRepeatedGate (sym e) (no_repeated_gate g c.rules.ensures)) c.build.ensures

pub returns-clause-shallow : goal.returns-clause-shallow
returns-clause-shallow c =
    let g = c.args.g.now in
    IfOk-weaker c.build.result (λ (m : Circuit). m ≡ tapped_module g) IsShallow (λ m e. subst IsShallow (sym e) (shallow g)) c.build.ensures

pub returns-clause-wires : goal.returns-clause-wires
returns-clause-wires c =
    let g = c.args.g.now in
    IfOk-weaker c.build.result (λ (m : Circuit). m ≡ tapped_module g) (λ (m : Circuit). length m.wires ≡ length g.gates) (λ m e. ap (λ (z : Circuit). length z.wires) e ∙ wire_count g c.rules.ensures) c.build.ensures

pub returns-clause-bits : goal.returns-clause-bits
returns-clause-bits c =
    let g = c.args.g.now in
    IfOk-weaker c.build.result (λ (m : Circuit). m ≡ tapped_module g) (λ (m : Circuit). circuit.register_bits m ≡ rules.register_bits g) (λ m e. ap circuit.register_bits e ∙ bit_count g c.rules.ensures) c.build.ensures

pub returns-clause-size : goal.returns-clause-size
returns-clause-size c =
    let g = c.args.g.now in
    IfOk-weaker c.build.result (λ (m : Circuit). m ≡ tapped_module g) (λ (m : Circuit). length (module_text m) ≤ 16777216) (λ m e. subst (λ (z : Circuit). length (module_text z) ≤ 16777216) (sym e) (is_short g c.rules.ensures)) c.build.ensures
