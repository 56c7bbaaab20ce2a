use Rattle.event_sim.proofs.Agreeing.{orders_agree}
use Rattle.event_sim.proofs.laws.all_orders_agree.Goals as goal

pub returns : goal.returns
returns c = orders_agree
