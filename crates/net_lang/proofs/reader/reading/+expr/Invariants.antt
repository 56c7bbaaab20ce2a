use Rattle.std.proofs.Common.{◌+◌, ◌*◌}
use Rattle.net_lang.proofs.reader.reading.+expr.Given as goal

abbrev pub decreases-expr : goal.decreases-expr
decreases-expr l = 2 * l.depth

abbrev pub decreases-pair : goal.decreases-pair
decreases-pair l = 2 * l.depth + 1

abbrev pub decreases-delay : goal.decreases-delay
decreases-delay l = 2 * l.depth + 1
