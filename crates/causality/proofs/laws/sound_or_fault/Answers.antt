use Rattle.causality.proofs.Faulting.{sound_or_fault, never_both}
use Rattle.causality.proofs.laws.sound_or_fault.Goals as goal

pub returns-clause-one : goal.returns-clause-one
returns-clause-one c = sound_or_fault

pub returns-clause-never_both : goal.returns-clause-never_both
returns-clause-never_both c = never_both
