use Rattle.std.proofs.Common.{◌≡◌, ◌+◌, ◌<◌, ◌^◌, length}
use Rattle.rl_text.specs.declared.token.Style.TheVariants as style
use Rattle.rl_text.specs.Cursor.{HasTokens, lines_left}
use Rattle.rl_text.proofs.cursor.Lines.next.Given as goal

abbrev pub invariant-loop-after : goal.invariant-loop-after
invariant-loop-after l = record {
  left : lines_left l.initial.self-inside.line l.initial.self-inside.rest.now ≡ lines_left l.number l.rest;
  few : l.number + length l.rest < 2 ^ 32;
  tokens : HasTokens style.Race l.rest;
}

abbrev pub decreases-loop-after : goal.decreases-loop-after
decreases-loop-after l = length l.rest
