use Rattle.std.proofs.Common.{sym, subst, ap, ◌∙◌}
use Rattle.std.specs.Prelude.{length, codes}
use Rattle.circuit.specs.Names.{numbered}
use Rattle.circuit.specs.Valid.{IsValid}
use Rattle.gate_lower.specs.Rules.{output_names}
use Rattle.gate_lower.proofs.Parts.{module_is}
use Rattle.gate_lower.proofs.Validity.{is_valid}
use Rattle.gate_lower.proofs.emitting.build.Goals as goal

pub new-requires : goal.new-requires
new-requires c =
    let g = c.args.g.now in
    let e = module_is g _ _ _ _ _ (c.in_ok-inputs.ensures ∙ c.inputs.ensures) (c.in_ok-outputs.ensures ∙ ap output_names c.outputs.ensures)
    (c.in_ok-wires.ensures ∙ ap (λ z. numbered (codes "w") (length z)) c.gates.ensures) c.in_ok-regs.ensures c.in_ok-assigns.ensures in
    subst IsValid (sym e) (is_valid g c.requires c.numbered_names_are_valid.ensures)
