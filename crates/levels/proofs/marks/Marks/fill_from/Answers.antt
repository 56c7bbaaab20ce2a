use Rattle.std.proofs.Common.{◌≤◌, length, arith, ap}
use Rattle.levels.proofs.Filling.{filled_below, filled_above}
use Rattle.levels.proofs.marks.Marks.fill_from.Goals as goal

pub returns-clause-below : goal.returns-clause-below
returns-clause-below c =
    let i = c.loop-place.invariant in
    let all : length c.loop-place.self-inside.words.items ≤ c.loop-place.place =
    omega (arith, c.loop-place-test.false, c.len-place-end.ensures, i.room, c.self.inside.words.ok.0, ap (λ z. length z) c.self.view_is) in
    λ k lt. filled_below c.loop-place.self-inside.words.items c.loop-place.place c.args.from k i.filled all lt

pub returns-clause-above : goal.returns-clause-above
returns-clause-above c =
    let i = c.loop-place.invariant in
    let all : length c.loop-place.self-inside.words.items ≤ c.loop-place.place =
    omega (arith, c.loop-place-test.false, c.len-place-end.ensures, i.room, c.self.inside.words.ok.0, ap (λ z. length z) c.self.view_is) in
    λ k ge lt. filled_above c.loop-place.self-inside.words.items c.loop-place.place c.args.from k i.filled all ge (omega (arith, lt, i.room))
