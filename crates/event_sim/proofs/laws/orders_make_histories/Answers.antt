use Rattle.event_sim.proofs.Agreeing.{make_histories}
use Rattle.event_sim.proofs.laws.orders_make_histories.Goals as goal

pub returns : goal.returns
returns c = make_histories
