use Rattle.network_checks.proofs.Sampled.{open_are}
use Rattle.network_checks.proofs.tables.open_table.Goals as goal

pub table_of-requires : goal.table_of-requires
table_of-requires c = rw c.in_ok-rows.ensures open_are
