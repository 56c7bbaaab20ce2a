use Rattle.std.proofs.Common.{arith}
use Rattle.std.proofs.lemmas.Int.{ints}
use Rattle.tree_check.specs.Bounds.{known}
use Rattle.tree_check.proofs.Decisions.{compared-no, compared-none}
use Rattle.tree_check.proofs.evaluation.compared.Goals as goal

pub returns-then-knows-2 : goal.returns-then-knows-2
returns-then-knows-2 c =
    compared-no (known c.args.table.now) c.args.i c.args.c c.args.j c.args.d _ _ c.if-i-j.false (omega (arith, ints)) (omega (arith, ints)) c.if-knows.ensures c.if-knows-2.ensures

pub returns-else-knows-2 : goal.returns-else-knows-2
returns-else-knows-2 c =
    compared-none (known c.args.table.now) c.args.i c.args.c c.args.j c.args.d _ _ c.if-i-j.false (omega (arith, ints)) (omega (arith, ints)) c.if-knows.ensures c.if-knows-2.ensures
