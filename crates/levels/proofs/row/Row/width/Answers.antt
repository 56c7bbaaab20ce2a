use Rattle.std.proofs.Common.{ap, sym, ◌∙◌, length}
use Rattle.levels.proofs.Words.{row_long}
use Rattle.levels.proofs.row.Row.width.Goals as goal

pub returns : goal.returns
returns c = sym (row_long c.self.inside.width c.self.inside.words.items) ∙ ap (λ z. length z) c.self.view_is
