use Rattle.rl_jobs.proofs.Agreement.{found, not_found, nothing_there}
use Rattle.rl_jobs.proofs.check.is_at.Goals as goal

pub returns-in-Some-clause-yes : goal.returns-in-Some-clause-yes
returns-in-Some-clause-yes c = found c.args.names.now c.args.place c.in-Some.other.now c.args.name.now c.bytes.result.now c.bytes-in-Some.result.now c.eq.result c.bytes.ensures c.bytes-in-Some.ensures c.in-Some.ensures.lookup.0 c.in-Some.ensures.lookup.1 c.eq.ensures

pub returns-in-Some-clause-no : goal.returns-in-Some-clause-no
returns-in-Some-clause-no c = not_found c.args.names.now c.args.place c.in-Some.other.now c.args.name.now c.bytes.result.now c.bytes-in-Some.result.now c.eq.result c.bytes.ensures c.bytes-in-Some.ensures c.in-Some.ensures.lookup.0 c.in-Some.ensures.lookup.1 c.eq.ensures

pub returns-in-None-clause-no : goal.returns-in-None-clause-no
returns-in-None-clause-no c = nothing_there c.args.names.now c.args.place c.args.name.now c.in-None.ensures.lookup.3
