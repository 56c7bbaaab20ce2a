use Rattle.net_lang.proofs.PrintedNetwork.{printed}
use Rattle.net_lang.proofs.printed.printing_spells.Goals as goal

pub returns : goal.returns
returns c = printed c.written_forms_spell.ensures c.decimals_are_numbers.ensures
