use Rattle.std.proofs.Common.{◌≡◌, ◌-◌, ◌/◌, length, get_or, arith, ap, sym, ◌∙◌}
use Rattle.std.proofs.lemmas.List.{get_or_read}
use Rattle.levels.proofs.Bits.{none_in}
use Rattle.levels.proofs.marks.Marks.step_down.Goals as goal

pub returns-then-index-eq0-clause-none : goal.returns-then-index-eq0-clause-none
returns-then-index-eq0-clause-none c =
    let words = c.args.self.now in
    let place = c.args.k / 64 - 1 in
    let word : c.index.result.now ≡ get_or words place 0 =
    get_or_read c.self.inside.words.items place _ (omega (arith, c.self.inside.words.ok.0, ap (λ z. length z) c.self.view_is, c.requires.some, c.requires.room, c.if-k-eq0.true)) c.index.ensures 0
    ∙ ap (λ z. get_or z place 0) c.self.view_is in
    none_in words c.args.k c.if-k-eq0.true c.requires.some (sym word ∙ c.if-index-eq0.true)
