use Rattle.std.proofs.Common.{sym, ◌∙◌}
use Rattle.rl_text.proofs.WordTurns.{name_first}
use Rattle.rl_text.proofs.cursor.has_word.Goals as goal

pub returns-in-len1-up-clause-some : goal.returns-in-len1-up-clause-some
returns-in-len1-up-clause-some c = λ _. name_first c.args.text.now c.in-len1-up.len_at_least (sym c.is_name_start.ensures ∙ c.if-is_name_start.true)
