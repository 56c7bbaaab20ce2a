use Rattle.std.proofs.Common.{arith}
use Rattle.verilog_read.proofs.Verdicts.{few_wires, wire_misnamed, wire_over, wire_stands}
use Rattle.verilog_read.proofs.declarations.read_wire.Goals as goal

pub returns-then-own_misnamed : goal.returns-then-own_misnamed
returns-then-own_misnamed c = λ x h. wire_misnamed c.args.draft.now x h c.args.name.now c.own_misnamed.result c.own_misnamed.ensures c.if-own_misnamed.true

pub returns-then-len-gt65536 : goal.returns-then-len-gt65536
returns-then-len-gt65536 c = λ x h. wire_over c.args.draft.now x h c.args.name.now c.own_misnamed.result c.own_misnamed.ensures c.if-own_misnamed.false (omega (arith, c.len.ensures, c.args.draft.now.wires.ok, c.if-len-gt65536.true))

pub push_wire-requires : goal.push_wire-requires
push_wire-requires c = few_wires c.args.draft.now c.requires.0 c.requires.1

pub returns : goal.returns
returns c = λ x h more. let rule = wire_stands c.args.draft.now x h c.args.name.now c.own_misnamed.result c.own_misnamed.ensures c.if-own_misnamed.false (omega (arith, c.len.ensures, c.args.draft.now.wires.ok, c.if-len-gt65536.false)) in (rule, c.in_ok-push_wire.ensures x h (more rule) rule)
