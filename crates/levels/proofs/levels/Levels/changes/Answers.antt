use Rattle.std.proofs.Common.{get_or, [], arith}
use Rattle.std.proofs.lemmas.Bool.{ltb-false}
use Rattle.levels.proofs.Edges.{same_shifted}
use Rattle.levels.proofs.levels.Levels.changes.Goals as goal

pub returns : goal.returns
returns c = λ no.
    let le = ltb-false c.change.result c.width.result no in
    same_shifted c.args.first (get_or c.args.self.now.regs c.args.reg []) c.change.result (omega (arith, c.width.ensures, le)) c.change.ensures.none
