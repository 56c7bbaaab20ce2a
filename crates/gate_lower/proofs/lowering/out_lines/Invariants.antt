use Rattle.std.proofs.Common.{◌≡◌, take}
use Rattle.gate_lower.specs.Lowered.{outputs_of}
use Rattle.gate_lower.proofs.lowering.out_lines.Given as goal

abbrev pub invariant-loop-place : goal.invariant-loop-place
invariant-loop-place l = l.outs.items ≡ outputs_of l.store.nodes l.plan.marks.items (take l.place l.roots) (take l.place l.names)
