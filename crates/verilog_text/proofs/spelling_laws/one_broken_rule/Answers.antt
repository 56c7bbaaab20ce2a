use Rattle.verilog_text.proofs.OneSpelling.{one_broken_rule}
use Rattle.verilog_text.proofs.spelling_laws.one_broken_rule.Goals as goal

pub returns : goal.returns
returns c = one_broken_rule c.one_list_of_tokens.ensures c.one_bad_place.ensures c.tokens_or_bad_place.ensures
