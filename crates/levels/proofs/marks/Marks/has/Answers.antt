use Rattle.std.proofs.Common.{◌≡◌, ◌/◌, length, get_or, arith, ap, sym, ◌∙◌}
use Rattle.std.proofs.lemmas.List.{get_or_read}
use Rattle.levels.proofs.Bits.{marked_in, unmarked_in}
use Rattle.levels.proofs.marks.Marks.has.Goals as goal

pub returns-clause-yes : goal.returns-clause-yes
returns-clause-yes c =
    let words = c.args.self.now in
    let word : c.index.result.now ≡ get_or words (c.args.k / 64) 0 =
    get_or_read c.self.inside.words.items (c.args.k / 64) _ (omega (arith, c.self.inside.words.ok.0, ap (λ z. length z) c.self.view_is, c.requires)) c.index.ensures 0 ∙ ap (λ z. get_or z (c.args.k / 64) 0) c.self.view_is in
    λ e. marked_in words c.args.k c.index.result.now word (sym c.bit_of.ensures ∙ e)

pub returns-clause-no : goal.returns-clause-no
returns-clause-no c =
    let words = c.args.self.now in
    let word : c.index.result.now ≡ get_or words (c.args.k / 64) 0 =
    get_or_read c.self.inside.words.items (c.args.k / 64) _ (omega (arith, c.self.inside.words.ok.0, ap (λ z. length z) c.self.view_is, c.requires)) c.index.ensures 0 ∙ ap (λ z. get_or z (c.args.k / 64) 0) c.self.view_is in
    λ e. unmarked_in words c.args.k c.index.result.now word (sym c.bit_of.ensures ∙ e)
