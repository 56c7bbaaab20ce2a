use Rattle.std.proofs.Common.{◌≡◌}
use Rattle.case_split.proofs.EqualOutputs.{AreShown}
use Rattle.case_split.proofs.comparing.compare.Given as goal

abbrev pub invariant-loop-out : goal.invariant-loop-out
invariant-loop-out l = record {
  store : l.store.nodes ≡ l.initial.store.nodes;
  shown : AreShown l.premises l.first l.second l.budget l.trees.items l.out;
}
