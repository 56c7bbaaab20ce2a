use Rattle.std.proofs.Common.{sym, ◌∙◌}
use Rattle.std.proofs.lemmas.Bool.{eqb-true}
use Rattle.std.proofs.lemmas.List.{nil_from_length}
use Rattle.rl_text.proofs.WordTurns.{at_end}
use Rattle.rl_text.proofs.cursor.Lines.next.Goals as goal

pub returns : goal.returns
returns c =
    let none = at_end c.loop-after.number c.loop-after.rest.now (nil_from_length _ (eqb-true _ 0 (sym c.loop-after-test.ensures))) in
    (sym c.self.view_is ∙ c.loop-after.invariant.left ∙ none, none)
