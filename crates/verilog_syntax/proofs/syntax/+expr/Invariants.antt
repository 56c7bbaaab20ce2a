use Rattle.std.proofs.Common.{◌≡◌, ◌+◌, ◌-◌, ◌*◌}
use Rattle.std.specs.Prelude.{codes}
use Rattle.verilog_text.specs.Grammar.{And, Or}
use Rattle.verilog_text.specs.Reading.{chain, product, sum, unary}
use Rattle.verilog_syntax.specs.View.{expression}
use Rattle.verilog_syntax.proofs.syntax.+expr.Given as goal

abbrev pub decreases-unary : goal.decreases-unary
decreases-unary l = 5 * l.depth

abbrev pub decreases-product : goal.decreases-product
decreases-product l = 5 * l.depth + 1

abbrev pub decreases-sum : goal.decreases-sum
decreases-sum l = 5 * l.depth + 2

abbrev pub decreases-group : goal.decreases-group
decreases-group l = 5 * l.depth + 3

abbrev pub decreases-operation : goal.decreases-operation
decreases-operation l = 5 * l.depth + 4

-- what is read in all is what the parts so far and the words after them come to
abbrev pub invariant-product-loop : goal.invariant-product-loop
invariant-product-loop l =
    chain (codes "&") And (unary l.depth) (63 - l.counter) (expression l.all) l.words ≡ product (unary l.depth) l.fn.words

abbrev pub invariant-sum-loop : goal.invariant-sum-loop
invariant-sum-loop l =
    chain (codes "|") Or (product (unary l.depth)) (63 - l.counter) (expression l.all) l.words ≡ sum (unary l.depth) l.fn.words
