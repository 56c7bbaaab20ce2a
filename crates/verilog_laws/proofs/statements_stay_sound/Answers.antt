use Rattle.verilog_laws.proofs.Parts.{sound_nothing}
use Rattle.verilog_laws.proofs.Stays.{sound_after}
use Rattle.verilog_laws.proofs.statements_stay_sound.Goals as goal

pub returns : goal.returns
returns c = record { none = sound_nothing; more = sound_after }
