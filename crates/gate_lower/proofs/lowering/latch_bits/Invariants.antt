use Rattle.std.proofs.Common.{◌≡◌}
use Rattle.term_store.specs.Places.{is_lt_node, marked_upto}
use Rattle.gate_lower.proofs.lowering.latch_bits.Given as goal

abbrev pub invariant-loop-place : goal.invariant-loop-place
invariant-loop-place l = l.bits ≡ marked_upto is_lt_node l.store.nodes l.marks l.place
