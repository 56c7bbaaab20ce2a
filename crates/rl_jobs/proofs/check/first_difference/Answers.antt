use Rattle.std.proofs.lemmas.Option.{slice_get_read}
use Rattle.std.proofs.Common.{refl}
use Rattle.rl_jobs.proofs.Agreement.{goes_on, shorter}
use Rattle.rl_jobs.proofs.check.first_difference.Goals as goal

pub loop-place-preserved : goal.loop-place-preserved
loop-place-preserved c =
    let a = c.args.a.now in
    let x = c.index-a-place.result in
    goes_on a c.args.b.now c.loop-place.place x c.loop-place.invariant (slice_get_read a _ c.loop-place.place x refl c.loop-place-test.true c.index-a-place.is) c.if-not-is_at.ensures.yes

pub returns-then-a-b-clause-place : goal.returns-then-a-b-clause-place
returns-then-a-b-clause-place c =
    shorter c.args.a.now c.args.b.now c.loop-place.place c.loop-place-test.false (c.loop-place.auto.place-end) c.loop-place.invariant c.if-a-b.true
