use Rattle.std.proofs.Common.{arith, sym, ◌∙◌}
use Rattle.verilog_syntax.specs.View.{range}
use Rattle.verilog_read.proofs.Verdicts.{few_regs, few_bits, small_width, reg_misnamed, reg_narrow, reg_over, reg_stands}
use Rattle.verilog_read.proofs.declarations.read_reg.Goals as goal

pub returns-then-own_misnamed : goal.returns-then-own_misnamed
returns-then-own_misnamed c = λ x h. reg_misnamed c.args.draft.now x h (range c.args.last) c.args.name.now c.own_misnamed.result c.own_misnamed.ensures c.if-own_misnamed.true

pub returns-then-is_narrow : goal.returns-then-is_narrow
returns-then-is_narrow c = λ x h. reg_narrow c.args.draft.now x h (range c.args.last) c.args.name.now c.own_misnamed.result c.own_misnamed.ensures c.if-own_misnamed.false (sym c.is_narrow.ensures ∙ c.if-is_narrow.true)

pub overflow_add-draft : goal.overflow_add-draft
overflow_add-draft c = omega (arith, few_bits c.args.draft.now c.requires.0 c.requires.1, small_width (range c.args.last), c.width_of.ensures)

pub returns-then-draft-width_of-gt65536 : goal.returns-then-draft-width_of-gt65536
returns-then-draft-width_of-gt65536 c = λ x h. reg_over c.args.draft.now x h (range c.args.last) c.args.name.now c.own_misnamed.result c.own_misnamed.ensures c.if-own_misnamed.false (sym c.is_narrow.ensures ∙ c.if-is_narrow.false)
    (omega (arith, c.width_of.ensures, c.if-draft-width_of-gt65536.true))

pub push_reg-requires-clause-regs : goal.push_reg-requires-clause-regs
push_reg-requires-clause-regs c = few_regs c.args.draft.now c.requires.0 c.requires.1

pub push_reg-requires-clause-bits : goal.push_reg-requires-clause-bits
push_reg-requires-clause-bits c = few_bits c.args.draft.now c.requires.0 c.requires.1

pub returns : goal.returns
returns c = λ x h more.
    let rule = reg_stands c.args.draft.now x h (range c.args.last) c.args.name.now c.own_misnamed.result c.own_misnamed.ensures c.if-own_misnamed.false (sym c.is_narrow.ensures ∙ c.if-is_narrow.false)
    (omega (arith, c.width_of.ensures, c.if-draft-width_of-gt65536.false)) in
    (rule, c.in_ok-push_reg.ensures x h (more rule) rule)
