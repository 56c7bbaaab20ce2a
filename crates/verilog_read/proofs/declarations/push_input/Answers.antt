use Rattle.std.proofs.Common.{refl, ◌∙◌, arith}
use Rattle.verilog_read.proofs.Kept.{input_kept}
use Rattle.verilog_read.proofs.declarations.push_input.Goals as goal

pub returns : goal.returns
returns c = λ x h sound rule. input_kept c.args.draft.now _ x c.args.name.now h _ _ sound rule c.requires.port (omega (arith, c.len-place.ensures, c.args.draft.now.inputs.ok)) (c.in_ok-input.ensures ∙ c.without_front.ensures) c.in_ok-add.ensures c.drop_first.ensures c.in_ok-push.ensures.items refl refl refl refl refl refl refl refl
