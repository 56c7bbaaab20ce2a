use Rattle.std.proofs.Common.{sym, ap, ◌+◌, ◌∙◌, arith}
use Rattle.rl_text.proofs.LexemeTurns.{gap_lexemes, one_lexeme, none_lexemes}
use Rattle.rl_text.proofs.left.words_from.Goals as goal

pub returns-in-Some-kind : goal.returns-in-Some-kind
returns-in-Some-kind c =
    sym (c.loop-kind.invariant.left ∙ one_lexeme c.in-Some.len c.loop-kind.rest.now c.split_at.result.1.now c.in-Some.kind (sym c.in-Some.ensures.value) c.split_at.ensures.back c.loop-kind.line
    c.in-Some-kind.kind c.split_at.result.0.now c.split_at.ensures.front c.in-Some-kind.is)

pub loop-kind-preserved : goal.loop-kind-preserved
loop-kind-preserved c = record {
  left = c.loop-kind.invariant.left ∙ gap_lexemes c.in-Some.len c.loop-kind.rest.now c.split_at.result.1.now c.in-Some.kind (sym c.in-Some.ensures.value) c.split_at.ensures.back c.loop-kind.line
      c.split_at.result.0.now (c.loop-kind.line + c.newlines.result) c.split_at.ensures.front (ap (λ n. c.loop-kind.line + n) c.newlines.ensures.count) c.in_default-kind.is;
  few = omega (arith, c.loop-kind.invariant.few, c.newlines.ensures.within, c.split_at.ensures.front_len, c.split_at.ensures.back_len, c.in-Some.ensures.within);
}

pub returns : goal.returns
returns c = sym (c.loop-kind.invariant.left ∙ none_lexemes c.loop-kind.line c.loop-kind.rest.now (sym c.front.ensures.value ∙ c.in_default.is))
