use Rattle.std.proofs.Common.{refl, ap, ◌∙◌, sym, ◌++◌, ◌∷◌, [], Some}
use Rattle.circuit.specs.declared.bit.Target.{Target}
use Rattle.circuit.specs.Circuit.{Assignment}
use Rattle.circuit.specs.View.{logic}
use Rattle.verilog_read.proofs.Assigned.{wire_assigned, output_assigned}
use Rattle.verilog_read.proofs.actions.push_assign.Goals as goal

pub returns-in_ok-push-in-Some-Wire : goal.returns-in_ok-push-in-Some-Wire
returns-in_ok-push-in-Some-Wire c = λ e same x h sound rule.
    wire_assigned c.args.draft.now _ x h c.args.name.now e sound rule (logic c.args.bit) same c.in-Some-Wire.w c.get.result c.get.ensures
    (sym c.target_of.ensures ∙ c.in-Some-Wire.is ∙ ap (λ (t : Target). Some t) c.in-Some-Wire.field-0-is) refl refl refl refl refl refl
    (c.in_ok-push-in-Some-Wire.ensures.items ∙ ap (λ (a : Assignment). c.args.draft.now.assigns.items ++ a ∷ []) c.new.ensures) c.set_flag.ensures refl refl refl

pub returns-in_ok-push-in-Some-Out : goal.returns-in_ok-push-in-Some-Out
returns-in_ok-push-in-Some-Out c = λ e same x h sound rule.
    output_assigned c.args.draft.now _ x h c.args.name.now e sound rule (logic c.args.bit) same c.in-Some-Out.o c.get.result c.get.ensures
    (sym c.target_of.ensures ∙ c.in-Some-Out.is ∙ ap (λ (t : Target). Some t) c.in-Some-Out.field-0-is) refl refl refl refl refl refl
    (c.in_ok-push-in-Some-Out.ensures.items ∙ ap (λ (a : Assignment). c.args.draft.now.assigns.items ++ a ∷ []) c.new-in-Some-Out.ensures) refl c.set_flag-in-Some-Out.ensures refl refl
