use Rattle.minterm.proofs.TableTimes.{table_is}
use Rattle.minterm.proofs.laws.the_term_has_the_tables_values.Goals as goal

pub returns : goal.returns
returns c = table_is
