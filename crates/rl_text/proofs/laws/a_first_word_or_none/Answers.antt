use Rattle.rl_text.proofs.Firsts.{word_or_none}
use Rattle.rl_text.proofs.laws.a_first_word_or_none.Goals as goal

pub returns : goal.returns
returns c = word_or_none
