use Rattle.verilog_syntax.specs.Reads.{stage}
use Rattle.verilog_syntax.proofs.Leading.{none_opens}
use Rattle.verilog_syntax.proofs.parser.next_statement.Goals as goal

pub returns-in-Err-Syntax-clause-lacks : goal.returns-in-Err-Syntax-clause-lacks
returns-in-Err-Syntax-clause-lacks c =
    let k = stage c.args.current in
    let ls = c.args.words.now in
    (c.first_line-line.ensures, none_opens k ls (rw c.in-Err-Syntax.field-0-is at c.in-Err-Syntax.ensures) (c.reading_is_opening.ensures.read k ls))
