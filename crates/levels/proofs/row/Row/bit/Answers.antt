use Rattle.std.proofs.Common.{false, get_or, ap, sym, ◌∙◌}
use Rattle.std.proofs.lemmas.Bool.{le-ltb}
use Rattle.levels.proofs.Words.{row_bit, row_past}
use Rattle.levels.proofs.row.Row.bit.Goals as goal

pub returns-then-place-self : goal.returns-then-place-self
returns-then-place-self c =
    c.bit_of.ensures ∙ (row_bit c.self.inside.width c.self.inside.words.items c.as_slice.result.now c.args.place c.as_slice.ensures c.if-place-self.true
    ∙ ap (λ z. get_or z c.args.place false) c.self.view_is)

pub returns-else-place-self : goal.returns-else-place-self
returns-else-place-self c =
    le-ltb c.args.place c.self.inside.width c.if-place-self.false
    ∙ (sym (row_past c.self.inside.width c.self.inside.words.items c.args.place c.if-place-self.false) ∙ ap (λ z. get_or z c.args.place false) c.self.view_is)
