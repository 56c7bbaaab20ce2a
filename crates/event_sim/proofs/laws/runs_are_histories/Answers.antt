use Rattle.event_sim.proofs.Cycles.{run_history}
use Rattle.event_sim.proofs.laws.runs_are_histories.Goals as goal

pub returns : goal.returns
returns c = λ m ord ks us states count round run. run_history m ord ks us states count round run
