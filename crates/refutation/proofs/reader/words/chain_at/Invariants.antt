use Rattle.std.proofs.Common.{◌≡◌, length}
use Rattle.refutation.specs.FormReading.{chain_at}
use Rattle.refutation.proofs.ChainReading.{put_before}
use Rattle.refutation.proofs.reader.words.chain_at.Given as goal

abbrev pub invariant-loop-w : goal.invariant-loop-w
invariant-loop-w l = put_before l.chain (chain_at l.rest) ≡ chain_at l.fn.words

abbrev pub decreases-loop-w : goal.decreases-loop-w
decreases-loop-w l = length l.rest
