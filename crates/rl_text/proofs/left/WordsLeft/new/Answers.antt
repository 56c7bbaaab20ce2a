use Rattle.std.proofs.Common.{◌∙◌}
use Rattle.rl_text.proofs.LexemeTurns.{all_words}
use Rattle.rl_text.proofs.left.WordsLeft.new.Goals as goal

pub returns : goal.returns
returns c = record { words = λ ts a. c.words_from.ensures ∙ all_words c.args.text.now ts a }
