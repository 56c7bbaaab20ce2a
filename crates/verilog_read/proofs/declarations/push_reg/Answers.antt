use Rattle.std.proofs.Common.{refl, ap, ◌∙◌, ◌+◌, arith}
use Rattle.verilog_syntax.specs.View.{range}
use Rattle.circuit.specs.Circuit.{Zero}
use Rattle.verilog_read.proofs.Kept.{reg_kept}
use Rattle.verilog_read.proofs.declarations.push_reg.Goals as goal

pub returns : goal.returns
returns c = λ x h sound rule. reg_kept c.args.draft.now _ x c.args.name.now h _ _ (range c.args.last) sound rule (omega (arith, c.len-place.ensures, c.args.draft.now.regs.ok))
    (c.new-reg.ensures ∙ (λ i. record { name = c.in_ok-new.ensures i; width = c.width_of-width.ensures i; next = Zero }))
    c.in_ok-add.ensures refl refl refl refl c.in_ok-push.ensures.items refl refl refl c.in_ok-push-2.ensures.items (ap (λ w. c.args.draft.now.bits + w) c.width_of-width.ensures)
