use Rattle.verilog_text.proofs.OneSpelling.{no_broken_rule}
use Rattle.verilog_text.proofs.spelling_laws.no_broken_rule.Goals as goal

pub returns : goal.returns
returns c = no_broken_rule c.one_list_of_tokens.ensures c.tokens_or_bad_place.ensures
