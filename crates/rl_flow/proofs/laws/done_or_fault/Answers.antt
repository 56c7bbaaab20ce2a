use Rattle.rl_flow.proofs.Judging.{done_or_fault}
use Rattle.rl_flow.proofs.laws.done_or_fault.Goals as goal

pub returns : goal.returns
returns c =
    done_or_fault (record {
      compiling = c.compiling.ensures;
      evaluating = c.evaluating.ensures;
      synthesising = c.synthesising.ensures;
      simplifying = c.simplifying.ensures;
      tabulating = c.tabulating.ensures;
      simulating = c.simulating.ensures;
      checking = c.checking.ensures;
      pairing = c.pairing.ensures;
    })
