use Rattle.net_lang.proofs.TextLaws.{one_cause}
use Rattle.net_lang.proofs.reader.laws.one_cause.Goals as goal

pub returns : goal.returns
returns c = one_cause c.one_broken.ensures
