use Rattle.std.proofs.Common.{arith}
use Rattle.term_store.specs.Places.{is_lt_node, is_marked_with}
use Rattle.gate_lower.proofs.Places.{count_le}
use Rattle.gate_lower.proofs.lowering.latch_bits.Goals as goal

pub overflow_add-bits : goal.overflow_add-bits
overflow_add-bits c =
    omega (arith, c.loop-place.invariant, count_le (is_marked_with is_lt_node c.args.store.now.nodes c.args.marks.now) c.loop-place.place, c.loop-place-test.true, c.rules.ensures.rules.few)
