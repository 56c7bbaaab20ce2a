use Rattle.std.proofs.Common.{◌≡◌, ◌≤◌, drop}
use Rattle.std.specs.Prelude.{min}
use Rattle.verilog_text.specs.Judging.{number_from, number_of}
use Rattle.verilog_read.proofs.expressions.number.Given as goal

abbrev pub invariant-loop-d : goal.invariant-loop-d
invariant-loop-d l = record {
  small : l.n ≤ 100000;
  so_far : min (number_from l.n (drop l.d-index l.digits)) 100000 ≡ min (number_of l.digits) 100000;
}
