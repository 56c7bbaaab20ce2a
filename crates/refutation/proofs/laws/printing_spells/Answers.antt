use Rattle.refutation.proofs.PrintedTrees.{printed}
use Rattle.refutation.proofs.laws.printing_spells.Goals as goal

pub returns : goal.returns
returns c = λ ts h. printed c.decimals_are_numbers.ensures ts h c.written_forms_spell.ensures
