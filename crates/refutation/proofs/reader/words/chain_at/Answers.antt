use Rattle.std.proofs.Common.{ℕ, List, sym, ◌∙◌}
use Rattle.refutation.proofs.ChainReading.{nothing_before, one_more, none_more, all_read, passed_on}
use Rattle.refutation.proofs.reader.words.chain_at.Goals as goal

pub loop-w-init : goal.loop-w-init
loop-w-init c = rw c.new-chain.ensures (nothing_before _)

pub returns-in_err-number : goal.returns-in_err-number
returns-in_err-number c =
    passed_on (λ (n : ℕ). n) (λ (chain : List ℕ). chain) _ _ _ _ c.from_residual.ensures.1 c.in_err-number.ensures (λ none. sym c.loop-w.invariant ∙ none_more _ c.loop-w.rest _ _ c.in-Some.ensures none)

pub loop-w-preserved : goal.loop-w-preserved
loop-w-preserved c = rw c.in_ok-push.ensures (sym (one_more _ c.loop-w.rest _ _ _ c.in-Some.ensures c.in_ok-number.ensures) ∙ c.loop-w.invariant)

pub returns : goal.returns
returns c = sym c.loop-w.invariant ∙ all_read _ c.loop-w.rest c.in_default.ensures.0
