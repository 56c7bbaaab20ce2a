use Rattle.levels.proofs.Bits.{none_marked}
use Rattle.levels.proofs.Words.{row_low}
use Rattle.levels.proofs.row.Row.low.Goals as goal

pub returns : goal.returns
returns c = row_low c.args.width _ _ c.in_ok-zeros.ensures (λ k. none_marked _ _ k c.in_ok-zeros.ensures)
