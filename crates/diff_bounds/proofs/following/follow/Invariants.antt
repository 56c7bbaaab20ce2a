use Rattle.std.proofs.Common.{◌<◌, get_or}
use Rattle.diff_bounds.specs.Search.{of}
use Rattle.diff_bounds.proofs.Steps.{Way}
use Rattle.diff_bounds.proofs.following.follow.Given as goal

abbrev pub invariant-loop-at : goal.invariant-loop-at
invariant-loop-at l =
    record {
      inside : l.at < l.n;
      low : get_or l.search.distances.items l.at 0 < l.question.limit;
      way : Way l.edges (of l.kept) (of l.search.distances.items) (of l.search.turns.items) l.fn.chain l.chain l.question.asked l.at;
    }

abbrev pub decreases-loop-at : goal.decreases-loop-at
decreases-loop-at l = get_or l.search.turns.items l.at 0
