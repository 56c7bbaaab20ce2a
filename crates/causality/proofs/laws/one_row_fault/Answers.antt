use Rattle.causality.proofs.Faulting.{one_row_fault}
use Rattle.causality.proofs.laws.one_row_fault.Goals as goal

pub returns : goal.returns
returns c = one_row_fault
