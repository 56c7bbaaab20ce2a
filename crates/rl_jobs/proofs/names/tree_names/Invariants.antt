use Rattle.std.proofs.Common.{◌≡◌, take}
use Rattle.refutation.specs.Trees.{names_of as tree_names}
use Rattle.rl_jobs.proofs.names.tree_names.Given as goal

abbrev pub invariant-loop-named : goal.invariant-loop-named
invariant-loop-named l = l.names.items ≡ tree_names (take l.named-index l.trees)
