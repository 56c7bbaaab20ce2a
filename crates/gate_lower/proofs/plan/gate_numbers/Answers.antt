use Rattle.std.proofs.Common.{◌∙◌, sym, arith}
use Rattle.gate_lower.specs.Lowered.{is_gate}
use Rattle.gate_lower.proofs.Places.{one_more, none_more, count_le}
use Rattle.gate_lower.proofs.Plans.{next_numbers}
use Rattle.gate_lower.proofs.plan.gate_numbers.Goals as goal
use Rattle.gate_lower.proofs.plan.gate_numbers.Goals.{then-is_gate, else-is_gate}

pub overflow_add-count : goal.overflow_add-count
overflow_add-count c =
    omega (arith, c.loop-place.invariant.1, count_le (is_gate c.args.store.now.nodes c.args.marks.now) c.loop-place.place, c.loop-place-test.true, c.len-place-end.ensures.len, c.rules.ensures.rules.few)

pub loop-place-preserved : goal.loop-place-preserved
loop-place-preserved c =
    let test = is_gate c.args.store.now.nodes c.args.marks.now in
    let i = c.loop-place.invariant in
    elim c.if-is_gate.branch [
      | then-is_gate w ↦
          next_numbers test c.loop-place.place _ _ _ _ i.0 i.1 c.in_ok-push.ensures.items (one_more _ _ _ w.count-is (sym c.is_gate.ensures.is ∙ w.if-is_gate.true))
      | else-is_gate w ↦
          next_numbers test c.loop-place.place _ _ _ _ i.0 i.1 c.in_ok-push.ensures.items (none_more _ _ _ w.count-is (sym c.is_gate.ensures.is ∙ w.if-is_gate.false))
    ]
