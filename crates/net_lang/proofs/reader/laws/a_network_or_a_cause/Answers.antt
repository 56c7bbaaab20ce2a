use Rattle.net_lang.proofs.TextLaws.{answer}
use Rattle.net_lang.proofs.reader.laws.a_network_or_a_cause.Goals as goal

pub returns : goal.returns
returns c text = answer text (c.always_one.ensures text)
