use Rattle.std.proofs.Common.{refl}
use Rattle.std.proofs.lemmas.Option.{slice_get_read}
use Rattle.rl_jobs.proofs.Checking.{accepts_more, all_accepted}
use Rattle.rl_jobs.proofs.check.check_trees.Goals as goal

pub loop-place-preserved : goal.loop-place-preserved
loop-place-preserved c =
    let t = c.index-trees-place.result in
    accepts_more ((c.args.first.now, c.args.second.now), c.args.trees.now) c.loop-place.place t c.loop-place.text.items c.put_accepted.new.text.items c.loop-place.invariant
    (slice_get_read c.args.trees.now _ c.loop-place.place t refl c.loop-place-test.true c.index-trees-place.is) (c.in-Ok.ensures.valid refl) c.in_ok-put_accepted-in-Ok.ensures

pub returns-clause-accepted : goal.returns-clause-accepted
returns-clause-accepted c = λ yes.
    all_accepted c.valid_trees_decide.ensures ((c.args.first.now, c.args.second.now), c.args.trees.now) c.loop-place.place c.loop-place.text.items c.requires.agree c.loop-place.invariant
    c.loop-place-test.false c.loop-place.auto.place-end
