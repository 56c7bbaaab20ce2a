use Rattle.std.proofs.Common.{refl, ◌∙◌, arith}
use Rattle.verilog_read.proofs.Kept.{output_kept}
use Rattle.verilog_read.proofs.declarations.push_output.Goals as goal

pub returns : goal.returns
returns c = λ x h sound rule. output_kept c.args.draft.now _ x c.args.name.now h _ _ sound rule (omega (arith, c.len-place.ensures, c.args.draft.now.outputs.ok)) (c.in_ok-output.ensures ∙ c.without_front.ensures) c.in_ok-add.ensures c.drop_first.ensures refl c.in_ok-push.ensures.items refl refl refl refl c.in_ok-push-2.ensures.items refl refl
