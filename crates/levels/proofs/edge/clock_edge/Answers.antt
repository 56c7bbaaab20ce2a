use Rattle.levels.proofs.Edges.{edge_is}
use Rattle.levels.proofs.edge.clock_edge.Goals as goal

pub returns-clause-state : goal.returns-clause-state
returns-clause-state c = edge_is c.args.m.now c.args.levels.now c.shift_all.new.levels c.next_levels.new.firsts c.requires.levels c.next_levels.ensures c.shift_all.ensures.state
