use Rattle.std.proofs.Common.{rules, ◌≡◌, false, refl, ap, ◌∙◌, Some}
use Rattle.circuit.specs.View.{logic}
use Rattle.verilog_read.specs.declared.scope.Meaning.{Meaning}
use Rattle.verilog_read.specs.Known.{is_reg}
use Rattle.verilog_read.proofs.Assigned.{always_kept, always_other}
use Rattle.verilog_read.proofs.actions.push_always.Goals as goal

pub returns-in-Some-Reg : goal.returns-in-Some-Reg
returns-in-Some-Reg c = λ z s e same x h sound rule.
    always_kept c.args.draft.now _ x h c.args.reset.now z s e sound rule c.in-Some-Reg.r c.get.result (logic c.args.next)
    c.get.ensures (c.in-Some-Reg.is ∙ ap (λ (m : Meaning). Some m) c.in-Some-Reg.field-0-is) same
    refl refl refl refl refl c.set_next.ensures refl refl refl c.set_flag.ensures refl

pub returns-in_default : goal.returns-in_default
returns-in_default c = λ z s e same x h sound rule.
    let other : is_reg c.get.result ≡ false = search rules in
    always_other c.args.draft.now c.args.draft.now x h c.args.reset.now z s e sound rule c.get.result c.get.ensures other
