use Rattle.std.specs.Prelude.{[]}
use Rattle.rl_jobs.proofs.Checking.{one_accepted_text, one_refused_text, never_accepted_and_refused}
use Rattle.rl_jobs.proofs.laws.one_check_text.Goals as goal

pub returns-clause-accepted : goal.returns-clause-accepted
returns-clause-accepted c = one_accepted_text c.checking.ensures

pub returns-clause-refused : goal.returns-clause-refused
returns-clause-refused c = one_refused_text c.checking.ensures (c.valid_or_fault.ensures [])

pub returns-clause-never_both : goal.returns-clause-never_both
returns-clause-never_both c = never_accepted_and_refused c.checking.ensures (c.valid_or_fault.ensures [])
