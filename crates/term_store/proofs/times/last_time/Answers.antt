use Rattle.std.proofs.Common.{refl}
use Rattle.term_store.proofs.Numbers.{time_is}
use Rattle.term_store.proofs.times.last_time.Goals as goal

pub returns-clause-time : goal.returns-clause-time
returns-clause-time c =
    time_is c.args.steps.now c.args.x.now c.args.place _ c.run.new.numbers _ c.requires.steps c.requires.early c.requires.within c.run.ensures.numbers refl c.time_of.ensures
