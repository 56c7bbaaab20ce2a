use Rattle.std.proofs.Common.{length}
use Rattle.verilog_syntax.specs.Reads.{stage}
use Rattle.verilog_read.proofs.Reached.{Reading}
use Rattle.verilog_read.proofs.judging.read_all.Given as goal

abbrev pub invariant-loop-alloc : goal.invariant-loop-alloc
invariant-loop-alloc l = Reading l.fn.words l.draft l.broken (stage l.current) l.words

abbrev pub decreases-loop-alloc : goal.decreases-loop-alloc
decreases-loop-alloc l = length l.words
