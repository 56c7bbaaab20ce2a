use Rattle.levels.proofs.Words.{pulled}
use Rattle.levels.proofs.row.pull.Goals as goal

pub returns : goal.returns
returns c = pulled c.args.word c.args.before c.ranges.before.fits
