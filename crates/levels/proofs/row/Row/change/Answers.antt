use Rattle.std.proofs.Common.{◌≡◌, ap, length, subst, arith}
use Rattle.levels.specs.Marked.{mark_at}
use Rattle.levels.specs.Rows.{moved_at}
use Rattle.levels.proofs.Words.{row_same, row_long}
use Rattle.levels.proofs.row.Row.change.Goals as goal

pub first_change-requires : goal.first_change-requires
first_change-requires c = let e = ap (λ z. length z) c.as_slice.ensures in omega (arith, c.self.invariant)

pub returns-clause-none : goal.returns-clause-none
returns-clause-none c = rw (← c.self.view_is) (λ j ge lt w.
    let words = c.self.inside.words.items in
    let width = c.self.inside.width in
    let long = row_long width words in
    let e = ap (λ z. length z) c.as_slice.ensures in
    let same : moved_at c.top.result words j ≡ mark_at words j =
    subst (λ z. moved_at c.top.result z j ≡ mark_at z j) c.as_slice.ensures (c.first_change.ensures.none j ge lt (omega (arith, c.self.invariant, e, long, w))) in
    row_same width words c.top.result c.args.first j c.top.ensures (omega (arith, long, w)) same)
