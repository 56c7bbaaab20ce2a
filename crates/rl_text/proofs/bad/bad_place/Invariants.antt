use Rattle.std.proofs.Common.{◌≡◌, ◌+◌, length}
use Rattle.rl_text.proofs.Falls.{ReadTo}
use Rattle.rl_text.proofs.bad.bad_place.Given as goal

abbrev pub invariant-loop-rest : goal.invariant-loop-rest
invariant-loop-rest l = record {
  within : l.at + length l.rest ≡ length l.text;
  read : ReadTo l.style l.text l.rest l.at;
}

abbrev pub decreases-loop-rest : goal.decreases-loop-rest
decreases-loop-rest l = length l.rest
