use Rattle.refutation.proofs.FormLemmas.{form_some, form_again}
use Rattle.refutation.proofs.reader.line.DraftLineReader.grammar_is_read.Goals as goal

pub returns : goal.returns
returns c = record { sound = form_some; complete = form_again }
