use Rattle.net_lang.proofs.TextLaws.{no_cause}
use Rattle.net_lang.proofs.reader.laws.no_cause.Goals as goal

pub returns : goal.returns
returns c = no_cause c.never_both.ensures
