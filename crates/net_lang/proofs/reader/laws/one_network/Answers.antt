use Rattle.net_lang.proofs.reader.laws.one_network.Goals as goal

pub returns : goal.returns
returns c = c.one_value.ensures
