use Rattle.std.proofs.Common.{refl, arith}
use Rattle.verilog_read.proofs.Kept.{wire_kept}
use Rattle.verilog_read.proofs.declarations.push_wire.Goals as goal

pub returns : goal.returns
returns c = λ x h sound rule. wire_kept c.args.draft.now _ x c.args.name.now h _ _ sound rule (omega (arith, c.len-place.ensures, c.args.draft.now.wires.ok)) c.in_ok-wire.ensures c.in_ok-add.ensures refl refl refl c.in_ok-push.ensures.items refl refl c.in_ok-push-2.ensures.items refl refl refl
