use Rattle.std.proofs.Common.{◌≡◌, ◌++◌, ◌∷◌, [], arith}
use Rattle.std.proofs.lemmas.Grind.{common_steps}
use Rattle.net_model.specs.View.{formula}
use Rattle.term_store.proofs.Runs.{run_output, ready_output, room_for_body, room_body}
use Rattle.term_store.proofs.build.put_outputs.Goals as goal

pub put-place-requires-clause-ready : goal.put-place-requires-clause-ready
put-place-requires-clause-ready c =
    ready_output _ _ c.args.bindings.now c.loop-binding.binding-index _ c.binding-item.result _ c.loop-binding-test.true c.binding-item.is c.body.ensures c.loop-binding.invariant.planted.grown c.requires.ready

pub put-place-requires-clause-room : goal.put-place-requires-clause-room
put-place-requires-clause-room c =
    room_for_body _ _ c.args.bindings.now c.loop-binding.binding-index c.binding-item.result (formula c.body.result.now) c.loop-binding-test.true c.binding-item.is c.body.ensures c.requires.room c.loop-binding.invariant.room

pub loop-binding-preserved : goal.loop-binding-preserved
loop-binding-preserved c =
    let i = c.loop-binding.binding-index in
    let bs = c.args.bindings.now in
    let d = c.binding-item.result in
    let f : c.push.new.self.items ≡ c.loop-binding.places.items ++ c.put-place.result ∷ [] = grind (arith, common_steps) in
    record {
      planted = run_output _ _ _ bs i d (formula c.body.result.now) c.args.lets.now _ _ c.put-place.result c.loop-binding-test.true c.binding-item.is c.body.ensures c.requires.lets f c.loop-binding.invariant.planted c.put-place.ensures.planted;
      len = grind (arith, common_steps);
      capacity = omega (arith, c.loop-binding.invariant.capacity, c.push.ensures.capacity);
      room = room_body _ _ _ bs i d (formula c.body.result.now) c.loop-binding-test.true c.binding-item.is c.body.ensures c.loop-binding.invariant.room c.put-place.ensures.room;
    }
