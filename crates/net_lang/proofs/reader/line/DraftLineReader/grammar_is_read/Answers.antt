use Rattle.net_lang.proofs.Verdicts.{is_read}
use Rattle.net_lang.proofs.reader.line.DraftLineReader.grammar_is_read.Goals as goal

pub returns : goal.returns
returns c = is_read
