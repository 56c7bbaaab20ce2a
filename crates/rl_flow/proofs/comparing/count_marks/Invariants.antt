use Rattle.std.proofs.Common.{◌≡◌, ◌≤◌, false}
use Rattle.std.specs.Prelude.{slice_index_or}
use Rattle.rl_flow.specs.Compared.{count_below}
use Rattle.rl_flow.proofs.comparing.count_marks.Given as goal

abbrev pub invariant-loop-mark : goal.invariant-loop-mark
invariant-loop-mark l = record {
  count : l.count ≡ count_below (λ place. slice_index_or l.marks place false) l.mark-index;
  few : l.count ≤ l.mark-index;
}
