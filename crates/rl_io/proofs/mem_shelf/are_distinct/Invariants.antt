use Rattle.std.proofs.Common.{length}
use Rattle.rl_io.specs.Files.{entries, AreDistinct}
use Rattle.rl_io.proofs.mem_shelf.are_distinct.Given as goal

abbrev pub invariant-loop-file : goal.invariant-loop-file
invariant-loop-file l = record {
  there : AreDistinct (entries l.rest) → AreDistinct (entries l.files);
  back : AreDistinct (entries l.files) → AreDistinct (entries l.rest);
}

abbrev pub decreases-loop-file : goal.decreases-loop-file
decreases-loop-file l = length l.rest
