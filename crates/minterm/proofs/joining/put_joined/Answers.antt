use Rattle.std.proofs.Common.{refl, arith}
use Rattle.minterm.proofs.Planted.{held}
use Rattle.minterm.proofs.Rooms.{no_room, room_after, room_then, one_node}
use Rattle.minterm.proofs.Joins.{next_over, join_more}
use Rattle.minterm.proofs.joining.put_joined.Goals as goal

pub loop-next-init : goal.loop-next-init
loop-next-init c = record {
  planted = held c.planting_laws.ensures _ _ _ c.requires.nodes c.requires.first refl;
  room = no_room _;
}

pub put-last-requires-clause-over : goal.put-last-requires-clause-over
put-last-requires-clause-over c =
    next_over c.args.join _ _ _ c.args.rest.now c.loop-next.next-index c.loop-next.last _ c.node.result c.loop-next-test.true c.requires.rest c.node.ensures c.loop-next.invariant.planted

pub put-last-requires-clause-places : goal.put-last-requires-clause-places
put-last-requires-clause-places c = omega (arith, (room_after _ _ c.loop-next.next-index 1 _ (omega arith) c.requires.room c.loop-next.invariant.room).places)

pub put-last-requires-clause-memory : goal.put-last-requires-clause-memory
put-last-requires-clause-memory c = omega (arith, (room_after _ _ c.loop-next.next-index 1 _ (omega arith) c.requires.room c.loop-next.invariant.room).memory)

pub loop-next-preserved : goal.loop-next-preserved
loop-next-preserved c = record {
  planted =
      join_more c.planting_laws.ensures c.args.join _ _ _ _ c.args.rest.now c.loop-next.next-index c.loop-next.last _ c.put-last.result c.node.result c.loop-next-test.true c.requires.rest c.node.ensures
      c.loop-next.invariant.planted c.put-last.ensures.planted;
  room = room_then _ _ _ c.loop-next.next-index 1 _ (omega arith) c.loop-next.invariant.room (one_node _ _ c.put-last.ensures.few c.put-last.ensures.spare);
}
