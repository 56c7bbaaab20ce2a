use Rattle.std.proofs.Common.{ap, sym, ◌∙◌, length, subst, arith}
use Rattle.levels.specs.Levels.{shifted}
use Rattle.levels.specs.Rows.{row_of, AllPulled}
use Rattle.levels.proofs.Grown.{refilled}
use Rattle.levels.proofs.Words.{row_moved}
use Rattle.levels.proofs.row.Row.shift.Goals as goal

pub returns : goal.returns
returns c =
    let old = c.self.inside.words.items in
    let new = c.pull_all.new.words in
    let width = c.self.inside.width in
    let pulled : AllPulled old c.top.result new = subst (λ z. AllPulled z c.top.result new) c.as_mut_slice.ensures.value c.pull_all.ensures in
    ap (λ z. row_of width z) (refilled (length old) old new (sym pulled.count))
    ∙ (row_moved width old new c.top.result c.args.first c.top.ensures pulled (omega (arith, c.self.invariant))
    ∙ ap (λ z. shifted c.args.first z) c.self.view_is)
