use Rattle.std.proofs.Common.{◌≡◌, take}
use Rattle.spike_eval.specs.Causal.{numbers}
use Rattle.case_split.proofs.deciding.as_times.Given as goal

abbrev pub invariant-loop-n : goal.invariant-loop-n
invariant-loop-n l = l.times.items ≡ numbers (take l.n-index l.ns)
