use Rattle.rl_text.proofs.Newlines.{lines_after, tokens_after}
use Rattle.rl_text.proofs.cursor.after_line.Goals as goal

pub returns-clause-lines : goal.returns-clause-lines
returns-clause-lines c = lines_after c.args.text.now c.split_at.result.1.now c.comment_bytes.result c.min-end.result c.requires.tokens c.comment_bytes.ensures.count c.min-end.ensures c.split_at.ensures.back

pub returns-clause-tokens : goal.returns-clause-tokens
returns-clause-tokens c = tokens_after c.args.text.now c.split_at.result.1.now c.comment_bytes.result c.min-end.result c.requires.tokens c.comment_bytes.ensures.count c.min-end.ensures c.split_at.ensures.back
