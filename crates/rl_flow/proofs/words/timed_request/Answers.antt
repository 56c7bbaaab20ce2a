use Rattle.std.proofs.Common.{◌≡◌, ◌∙◌, refl, ap, sym, Some, None}
use Rattle.std.specs.Option.{option_map}
use Rattle.rl_flow.specs.Request.{task}
use Rattle.rl_flow.specs.Words.{order_word, texts_of}
use Rattle.rl_flow.proofs.Timed.{timed_is}
use Rattle.rl_flow.proofs.words.timed_request.Goals as goal

pub returns-in_err-times-clause-task : goal.returns-in_err-times-clause-task
returns-in_err-times-clause-task c =
    ap (λ z. option_map task z) c.from_residual-in_err-times.ensures
    ∙ timed_is c.args.cycles c.args.words.now None (order_word (texts_of c.args.words.now)) (sym c.names_order.ensures ∙ c.if-not-names_order.false) c.in_err-times.ensures refl

pub returns-in_err-order-clause-task : goal.returns-in_err-order-clause-task
returns-in_err-order-clause-task c =
    ap (λ z. option_map task z) c.from_residual-in_err-order.ensures
    ∙ timed_is c.args.cycles c.args.words.now (Some c.in_ok-times.times) None (sym c.names_order.ensures ∙ c.if-not-names_order.false) c.in_ok-times.ensures c.in_err-order.ensures

pub returns-clause-task : goal.returns-clause-task
returns-clause-task c =
    timed_is c.args.cycles c.args.words.now (Some c.in_ok-times.times) (Some c.in_ok-order.order) (sym c.names_order.ensures ∙ c.if-not-names_order.false) c.in_ok-times.ensures c.in_ok-order.ensures
