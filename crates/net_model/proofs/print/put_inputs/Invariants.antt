use Rattle.std.proofs.Common.{◌≡◌, ◌++◌, take}
use Rattle.net_model.specs.Text.{spaced_names}
use Rattle.net_model.proofs.print.put_inputs.Given as goal

abbrev pub invariant-loop-name : goal.invariant-loop-name
invariant-loop-name l = l.text.items ≡ l.initial.text.items ++ spaced_names (take l.name-index l.names)
