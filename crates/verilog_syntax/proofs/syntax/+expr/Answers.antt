use Rattle.std.proofs.Common.{Some, refl, sym, ap, ◌∙◌}
use Rattle.std.specs.Prelude.{codes}
use Rattle.std.proofs.lemmas.Result.{err_from_is_err_and}
use Rattle.verilog_text.specs.Grammar.{And, Or}
use Rattle.verilog_text.specs.Reading.{product, sum, unary}
use Rattle.verilog_syntax.specs.View.{expression}
use Rattle.verilog_syntax.proofs.Chains.{chain_done, chain_ends, chain_goes, chain_fails, chain_full, product_first, product_fails, sum_first, sum_fails}
use Rattle.verilog_syntax.proofs.syntax.+expr.Goals as goal

pub product-loop-init : goal.product-loop-init
product-loop-init t c = product_first (unary c.args.depth) (expression c.in_ok-all.all) c.args.words.now c.unary.new.words c.in_ok-all.ensures

pub product-returns-in_err-all : goal.product-returns-in_err-all
product-returns-in_err-all t c =
    let p = err_from_is_err_and c.from_residual.result c.from_residual.ensures.1 in
    rw (p.1, p.2) (product_fails c.unary.new.words c.in_err-all.field-0.0 (unary c.args.depth) c.args.words.now c.in_err-all.ensures)

pub product-returns-then-not-take_sign : goal.product-returns-then-not-take_sign
product-returns-then-not-take_sign t c =
    let kept = c.if-not-take_sign.ensures.kept refl in
    chain_done (codes "&") And (unary c.args.depth) _ (expression c.loop.all) c.loop.words (product (unary c.args.depth) c.args.words.now) kept.0 c.loop.invariant ∙ ap (λ ls. Some (expression c.loop.all, ls)) (sym kept.1)

pub product-returns-in_err-part : goal.product-returns-in_err-part
product-returns-in_err-part t c =
    let p = err_from_is_err_and c.from_residual-in_err-part.result c.from_residual-in_err-part.ensures.1 in
    rw (p.1, p.2) (chain_fails (codes "&") And (unary c.args.depth) c.unary-in-loop.new.words c.in_err-part.field-0.0 c.loop.counter (expression c.loop.all) c.loop.words c.take_sign.new.words (product (unary c.args.depth) c.args.words.now) c.loop-test.true (c.if-not-take_sign.ensures.taken refl) c.in_err-part.ensures c.loop.invariant)

pub product-loop-preserved : goal.product-loop-preserved
product-loop-preserved t c =
    rw (c.in_ok-new.ensures.ok, c.in_ok-new-2.ensures.ok) (chain_goes (codes "&") And (unary c.args.depth) c.loop.counter (expression c.loop.all) (expression c.in_ok-part.part) c.loop.words c.take_sign.new.words c.unary-in-loop.new.words (product (unary c.args.depth) c.args.words.now) c.loop-test.true (c.if-not-take_sign.ensures.taken refl) c.in_ok-part.ensures c.loop.invariant)

pub product-returns-then-starts : goal.product-returns-then-starts
product-returns-then-starts t c = chain_full (codes "&") And (unary c.args.depth) c.loop.counter (expression c.loop.all) c.loop.words (product (unary c.args.depth) c.args.words.now) c.loop-test.false (sym c.starts.ensures ∙ c.if-starts.true) c.loop.invariant

pub product-returns : goal.product-returns
product-returns t c = chain_ends (codes "&") And (unary c.args.depth) c.loop.counter (expression c.loop.all) c.loop.words (product (unary c.args.depth) c.args.words.now) (sym c.starts.ensures ∙ c.if-starts.false) c.loop.invariant

pub sum-loop-init : goal.sum-loop-init
sum-loop-init t c = sum_first (unary c.args.depth) (expression c.in_ok-all.all) c.args.words.now c.product.new.words c.in_ok-all.ensures

pub sum-returns-in_err-all : goal.sum-returns-in_err-all
sum-returns-in_err-all t c =
    let p = err_from_is_err_and c.from_residual.result c.from_residual.ensures.1 in
    rw (p.1, p.2) (sum_fails c.product.new.words c.in_err-all.field-0.0 (unary c.args.depth) c.args.words.now c.in_err-all.ensures)

pub sum-returns-then-not-take_sign : goal.sum-returns-then-not-take_sign
sum-returns-then-not-take_sign t c =
    let kept = c.if-not-take_sign.ensures.kept refl in
    chain_done (codes "|") Or (product (unary c.args.depth)) _ (expression c.loop.all) c.loop.words (sum (unary c.args.depth) c.args.words.now) kept.0 c.loop.invariant ∙ ap (λ ls. Some (expression c.loop.all, ls)) (sym kept.1)

pub sum-returns-in_err-part : goal.sum-returns-in_err-part
sum-returns-in_err-part t c =
    let p = err_from_is_err_and c.from_residual-in_err-part.result c.from_residual-in_err-part.ensures.1 in
    rw (p.1, p.2) (chain_fails (codes "|") Or (product (unary c.args.depth)) c.product-in-loop.new.words c.in_err-part.field-0.0 c.loop.counter (expression c.loop.all) c.loop.words c.take_sign.new.words (sum (unary c.args.depth) c.args.words.now) c.loop-test.true (c.if-not-take_sign.ensures.taken refl) c.in_err-part.ensures c.loop.invariant)

pub sum-loop-preserved : goal.sum-loop-preserved
sum-loop-preserved t c =
    rw (c.in_ok-new.ensures.ok, c.in_ok-new-2.ensures.ok) (chain_goes (codes "|") Or (product (unary c.args.depth)) c.loop.counter (expression c.loop.all) (expression c.in_ok-part.part) c.loop.words c.take_sign.new.words c.product-in-loop.new.words (sum (unary c.args.depth) c.args.words.now) c.loop-test.true (c.if-not-take_sign.ensures.taken refl) c.in_ok-part.ensures c.loop.invariant)

pub sum-returns-then-starts : goal.sum-returns-then-starts
sum-returns-then-starts t c = chain_full (codes "|") Or (product (unary c.args.depth)) c.loop.counter (expression c.loop.all) c.loop.words (sum (unary c.args.depth) c.args.words.now) c.loop-test.false (sym c.starts.ensures ∙ c.if-starts.true) c.loop.invariant

pub sum-returns : goal.sum-returns
sum-returns t c = chain_ends (codes "|") Or (product (unary c.args.depth)) c.loop.counter (expression c.loop.all) c.loop.words (sum (unary c.args.depth) c.args.words.now) (sym c.starts.ensures ∙ c.if-starts.false) c.loop.invariant
