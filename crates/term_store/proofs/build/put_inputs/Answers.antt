use Rattle.std.proofs.Common.{arith}
use Rattle.term_store.specs.declared.node.Node.TheVariants as node
use Rattle.term_store.proofs.Room.{place_for, memory_for, room_after, room_then, room_one}
use Rattle.term_store.proofs.Runs.{input_planted}
use Rattle.term_store.proofs.Put.{prefix_then}
use Rattle.term_store.proofs.Runs.{inputs_more, held_more}
use Rattle.term_store.proofs.build.put_inputs.Goals as goal

pub keep-place-requires-clause-room : goal.keep-place-requires-clause-room
keep-place-requires-clause-room c =
    place_for _ (node.Input c.loop-input.input) 1 (omega arith) (room_after _ _ c.loop-input.input 1 _ (omega arith) c.requires.room c.loop-input.invariant.room)

pub keep-place-requires-clause-spare : goal.keep-place-requires-clause-spare
keep-place-requires-clause-spare c =
    memory_for _ (node.Input c.loop-input.input) 1 (omega arith) (room_after _ _ c.loop-input.input 1 _ (omega arith) c.requires.room c.loop-input.invariant.room)

pub loop-input-preserved : goal.loop-input-preserved
loop-input-preserved c =
    let i = c.loop-input.input in
    let before = c.loop-input.invariant in
    let k = c.keep-place.ensures in
    let free = place_for _ (node.Input i) 1 (omega arith) (room_after _ _ i 1 _ (omega arith) c.requires.room before.room) in
    let p = input_planted _ _ i c.keep-place.result before.is_nodes (omega arith) free k.nodes k.within k.at in
    record {
      nodes = inputs_more _ _ _ i before.nodes k.nodes;
      is_nodes = p.is_nodes;
      grown = prefix_then _ _ _ before.grown p.grown;
      held = held_more c.loop-input.store.nodes _ i k.nodes before.held;
      room = room_then _ _ _ i 1 before.room (room_one _ _ (node.Input i) k.nodes k.spare);
    }
