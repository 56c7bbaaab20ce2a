use Rattle.verilog_text.proofs.OneSpelling.{one_module}
use Rattle.verilog_text.proofs.spelling_laws.one_module.Goals as goal

pub returns : goal.returns
returns c = one_module c.one_list_of_tokens.ensures
