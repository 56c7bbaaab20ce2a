use Rattle.verilog_text.proofs.Opening.{opens_some, opens_again}
use Rattle.verilog_text.proofs.spelling_laws.reading_is_opening.Goals as goal

pub returns : goal.returns
returns c = record { opened = opens_some; read = opens_again }
