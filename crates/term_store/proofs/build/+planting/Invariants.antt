use Rattle.std.proofs.Common.{◌+◌, ◌*◌}
use Rattle.net_model.specs.View.{formula}
use Rattle.term_store.specs.Planting.{operators}
use Rattle.term_store.proofs.build.+planting.Given as goal

abbrev pub decreases-put : goal.decreases-put
decreases-put l = 2 * operators (formula l.body.now)

abbrev pub decreases-put_pair : goal.decreases-put_pair
decreases-put_pair l = 2 * (operators (formula l.a.now) + operators (formula l.b.now)) + 1
