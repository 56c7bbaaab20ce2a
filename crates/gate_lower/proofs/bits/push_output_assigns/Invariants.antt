use Rattle.std.proofs.Common.{◌≡◌, ◌++◌, drop}
use Rattle.gate_lower.specs.Tapped.{output_assigns}
use Rattle.gate_lower.proofs.bits.push_output_assigns.Given as goal

abbrev pub invariant-loop-place : goal.invariant-loop-place
invariant-loop-place l = l.assigns.items ++ output_assigns l.place (drop l.place l.outputs) ≡ l.initial.assigns.items ++ output_assigns 0 l.outputs
