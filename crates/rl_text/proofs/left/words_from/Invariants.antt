use Rattle.std.proofs.Common.{◌≡◌, ◌+◌, ◌<◌, ◌^◌, length}
use Rattle.rl_text.specs.Left.{lexemes_left}
use Rattle.rl_text.proofs.left.words_from.Given as goal

abbrev pub invariant-loop-kind : goal.invariant-loop-kind
invariant-loop-kind l = record {
  left : lexemes_left l.number l.text ≡ lexemes_left l.line l.rest;
  few : l.line + length l.rest < 2 ^ 32;
}

abbrev pub decreases-loop-kind : goal.decreases-loop-kind
decreases-loop-kind l = length l.rest
