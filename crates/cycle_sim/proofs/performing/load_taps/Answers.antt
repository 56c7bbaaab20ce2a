use Rattle.std.proofs.Common.{◌+◌, sym, subst, get_or, set, arith}
use Rattle.std.proofs.lemmas.Option.{slice_get-get_or, slice_get_within}
use Rattle.cycle_sim.specs.declared.operation.Tap.{Tap}
use Rattle.cycle_sim.proofs.Loaded.{Loading, loading_on}
use Rattle.cycle_sim.proofs.performing.load_taps.Goals as goal

abbrev none : Tap
none = record { to = 0; reg = 0; bit = 0 }

pub loop-tap-preserved : goal.loop-tap-preserved
loop-tap-preserved c =
    let k = c.loop-tap.tap-index in
    let taps = c.args.taps.now in
    let t = get_or taps k none in
    let there = slice_get-get_or taps k none c.loop-tap-test.true in
    subst (λ b. Loading taps c.args.levels.now c.args.values.now (set c.loop-tap.values t.to b) (k + 1)) (sym c.register_bit.ensures)
    (loading_on taps c.args.levels.now c.args.values.now c.loop-tap.values k t c.requires.own there (c.requires.room k t there) c.loop-tap.invariant)

pub returns-clause-tapped : goal.returns-clause-tapped
returns-clause-tapped c = λ j t there.
    let lt = slice_get_within c.args.taps.now j t there in
    c.loop-tap.invariant.tapped j t (omega (arith, lt, c.loop-tap-test.false)) there

pub returns-clause-rest : goal.returns-clause-rest
returns-clause-rest c = c.loop-tap.invariant.rest
