use Rattle.std.proofs.Common.{◌∙◌, ap, sym}
use Rattle.gate_lower.specs.Lowered.{is_gate, gate_at, node_gate}
use Rattle.gate_lower.proofs.Places.{more_kept, same_kept}
use Rattle.gate_lower.proofs.lowering.gates.Goals as goal
use Rattle.gate_lower.proofs.lowering.gates.Goals.{then-is_gate+in_ok-push, else-is_gate}

pub loop-place-preserved : goal.loop-place-preserved
loop-place-preserved c =
    let nodes = c.args.store.now.nodes in
    let marks = c.args.plan.now.marks.items in
    let p = c.loop-place.place in
    elim c.if-is_gate.branch [
      | then-is_gate+in_ok-push w ↦
          ap (λ v. v.items) w.gates-is ∙ more_kept (gate_at nodes marks) (is_gate nodes marks) p _ _ _ c.loop-place.invariant
          (sym c.is_gate.ensures.is ∙ w.if-is_gate.true) w.in_ok-push.ensures.items
          (w.gate.ensures.gate ∙ ap (node_gate nodes marks) w.node.ensures.at)
      | else-is_gate w ↦
          same_kept (gate_at nodes marks) (is_gate nodes marks) p _ _ c.loop-place.invariant
          (sym c.is_gate.ensures.is ∙ w.if-is_gate.false) (ap (λ v. v.items) w.gates-is)
    ]
