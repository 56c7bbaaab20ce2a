use Rattle.rl_flow.proofs.Judging.{one_fault, no_fault}
use Rattle.rl_flow.proofs.laws.one_fault.Goals as goal

pub returns-clause-one : goal.returns-clause-one
returns-clause-one c =
    one_fault (record {
      compiling = c.compiling.ensures;
      evaluating = c.evaluating.ensures;
      synthesising = c.synthesising.ensures;
      simplifying = c.simplifying.ensures;
      tabulating = c.tabulating.ensures;
      simulating = c.simulating.ensures;
      checking = c.checking.ensures;
      pairing = c.pairing.ensures;
    })

pub returns-clause-none : goal.returns-clause-none
returns-clause-none c =
    no_fault (record {
      compiling = c.compiling.ensures;
      evaluating = c.evaluating.ensures;
      synthesising = c.synthesising.ensures;
      simplifying = c.simplifying.ensures;
      tabulating = c.tabulating.ensures;
      simulating = c.simulating.ensures;
      checking = c.checking.ensures;
      pairing = c.pairing.ensures;
    })
