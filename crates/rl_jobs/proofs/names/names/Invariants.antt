use Rattle.std.proofs.Common.{◌≡◌, take}
use Rattle.net_model.specs.Rules.{names_of}
use Rattle.rl_jobs.proofs.names.names.Given as goal

abbrev pub invariant-loop-binding : goal.invariant-loop-binding
invariant-loop-binding l = l.names.items ≡ names_of (take l.binding-index l.bindings)
