use Rattle.rl_text.specs.declared.token.Style.TheVariants as style
use Rattle.verilog_laws.proofs.Spelled.{has_answer}
use Rattle.verilog_laws.proofs.spells_or_breaks.Goals as goal

pub returns : goal.returns
returns c text = has_answer c.reading_is_opening.ensures.opened c.reading_is_opening.ensures.read text (c.bad_where_no_tokens.ensures style.Verilog text)
