use Rattle.std.proofs.Common.{◌≡◌, ◌≤◌, drop}
use Rattle.std.specs.Prelude.{min}
use Rattle.rl_text.specs.Numbers.{number_from, number_of}
use Rattle.rl_text.proofs.number.capped_number.Given as goal

abbrev pub invariant-loop-d : goal.invariant-loop-d
invariant-loop-d l = record {
  small : l.n ≤ l.limit;
  so_far : min (number_from l.n (drop l.d-index l.digits)) l.limit ≡ min (number_of l.digits) l.limit;
}
