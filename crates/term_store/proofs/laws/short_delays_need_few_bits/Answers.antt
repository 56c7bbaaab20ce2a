use Rattle.term_store.proofs.FewBits.{few_bits}
use Rattle.term_store.proofs.laws.short_delays_need_few_bits.Goals as goal

pub returns : goal.returns
returns c = record { law = few_bits }
