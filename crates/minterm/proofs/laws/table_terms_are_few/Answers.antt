use Rattle.minterm.proofs.FewTerms.{are_few, is_short}
use Rattle.minterm.proofs.TableBits.{are_few_bits}
use Rattle.minterm.proofs.laws.table_terms_are_few.Goals as goal

pub returns : goal.returns
returns c = record { terms = are_few; short = is_short; bits = are_few_bits c.short_delays_need_few_bits.ensures.law }
