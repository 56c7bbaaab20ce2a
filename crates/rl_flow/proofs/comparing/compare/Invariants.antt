use Rattle.rl_flow.proofs.Histories.{HaveCompared}
use Rattle.rl_flow.proofs.comparing.compare.Given as goal

abbrev pub invariant-loop-cycle : goal.invariant-loop-cycle
invariant-loop-cycle l = HaveCompared l.m l.rises l.expected l.cycle l.sim.circuit l.sim.state l.levels.items l.agree.items
