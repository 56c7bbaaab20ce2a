use Rattle.std.proofs.Common.{◌≡◌, take}
use Rattle.net_model.specs.Rules.{names_of}
use Rattle.network_checks.proofs.terms.output_names.Given as goal

abbrev pub invariant-loop-output : goal.invariant-loop-output
invariant-loop-output l = l.names.items ≡ names_of (take l.output-index l.output-items)
