use Rattle.std.proofs.Common.{refl}
use Rattle.verilog_read.proofs.Kept.{clock_kept}
use Rattle.verilog_read.proofs.declarations.push_clock.Goals as goal

pub returns : goal.returns
returns c = λ x h sound rule. clock_kept c.args.draft.now _ x c.args.name.now h sound rule c.requires c.in_ok-add.ensures c.drop_first.ensures refl refl refl refl refl refl refl refl refl
