use Rattle.std.proofs.Common.{arith, ap, length}
use Rattle.term_store.specs.Places.{longest_at, is_lt_node, is_marked_with}
use Rattle.gate_lower.proofs.Places.{length_listed, count_le}
use Rattle.gate_lower.proofs.lowering.bits.Goals as goal

pub delay_bits-requires : goal.delay_bits-requires
delay_bits-requires c =
    let nodes = c.args.store.now.nodes in
    record { few = omega (arith, ap length c.deref.ensures.value, ap length c.requires.plan.longest, length_listed (longest_at nodes c.args.plan.now.marks.items) (length nodes), c.rules.ensures.rules.few) }

pub overflow_add-result : goal.overflow_add-result
overflow_add-result c =
    let nodes = c.args.store.now.nodes in
    omega (arith, c.delay_bits.ensures.small, c.latch_bits.ensures.count, count_le (is_marked_with is_lt_node nodes c.deref-2.result.now) (length nodes), c.rules.ensures.rules.few)
