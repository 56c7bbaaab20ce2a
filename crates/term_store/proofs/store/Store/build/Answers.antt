use Rattle.std.proofs.Common.{◌≡◌, ◌+◌, ◌∙◌, sym, ap, subst, arith, length}
use Rattle.term_store.specs.Planting.{all_operators, AreReadyLets, AreReadyOutputs}
use Rattle.term_store.proofs.Fits.{HeldInputs, network_lets_ready, network_outputs_ready, room_at_first, room_less, few_added}
use Rattle.term_store.proofs.Room.{room_after, room_then}
use Rattle.term_store.proofs.store.Store.build.Goals as goal

pub put_lets-requires-clause-ready : goal.put_lets-requires-clause-ready
put_lets-requires-clause-ready c =
    let held : HeldInputs c.put_inputs.new.store.nodes (length c.args.n.now.inputs) = subst (HeldInputs c.put_inputs.new.store.nodes) (ap length c.inputs.ensures) c.put_inputs.ensures.held in
    subst (AreReadyLets c.put_inputs.new.store.nodes 0) (sym c.lets-2.ensures) (network_lets_ready c.put_inputs.new.store.nodes c.args.n.now c.rules-2.ensures held)

pub put_lets-requires-clause-room : goal.put_lets-requires-clause-room
put_lets-requires-clause-room c =
    let first = room_at_first c.reserve.new.self c.args.n.now c.rules-2.ensures (omega (arith, ap length c.reserve.ensures.nodes, c.requires.room)) c.in_ok-reserve.ensures.room in
    let lets = all_operators c.args.n.now.lets in
    let outputs = all_operators c.args.n.now.outputs in
    room_less _ _ (lets + outputs) (omega (arith, ap all_operators c.lets-2.ensures)) (room_after _ _ (length c.inputs.result.now) (lets + outputs) _ (omega (arith, ap length c.inputs.ensures)) first c.put_inputs.ensures.room)

pub put_outputs-requires-clause-ready : goal.put_outputs-requires-clause-ready
put_outputs-requires-clause-ready c =
    let held : HeldInputs c.put_inputs.new.store.nodes (length c.args.n.now.inputs) = subst (HeldInputs c.put_inputs.new.store.nodes) (ap length c.inputs.ensures) c.put_inputs.ensures.held in
    let count : length c.deref.result.now ≡ length c.args.n.now.lets = c.deref.ensures.len ∙ c.put_lets.ensures.len ∙ ap length c.lets-2.ensures in
    subst (AreReadyOutputs c.put_lets.new.store.nodes (length c.deref.result.now)) (sym c.outputs-2.ensures)
    (network_outputs_ready c.put_inputs.new.store.nodes c.put_lets.new.store.nodes c.args.n.now (length c.deref.result.now) count c.rules-2.ensures held c.put_lets.ensures.planted.grown)

pub put_outputs-requires-clause-room : goal.put_outputs-requires-clause-room
put_outputs-requires-clause-room c =
    let first = room_at_first c.reserve.new.self c.args.n.now c.rules-2.ensures (omega (arith, ap length c.reserve.ensures.nodes, c.requires.room)) c.in_ok-reserve.ensures.room in
    let lets = all_operators c.args.n.now.lets in
    let outputs = all_operators c.args.n.now.outputs in
    let second = room_after _ _ (length c.inputs.result.now) (lets + outputs) _ (omega (arith, ap length c.inputs.ensures)) first c.put_inputs.ensures.room in
    room_after _ _ (all_operators c.lets-2.result.now) _ (lets + outputs) (omega (arith, ap all_operators c.lets-2.ensures, ap all_operators c.outputs-2.ensures)) second c.put_lets.ensures.room

pub returns-clause-few : goal.returns-clause-few
returns-clause-few c =
    let lets = all_operators c.lets-2.result.now in
    let outputs = all_operators c.outputs-2.result.now in
    let first = room_then _ _ _ (length c.inputs.result.now) lets c.put_inputs.ensures.room c.put_lets.ensures.room in
    let all = room_then _ _ _ (length c.inputs.result.now + lets) outputs first c.put_outputs.ensures.room in
    let few = few_added c.reserve.new.self c.put_outputs.new.store c.args.n.now (length c.inputs.result.now) lets outputs c.rules-2.ensures (omega (arith, ap length c.inputs.ensures)) (ap all_operators c.lets-2.ensures) (ap all_operators c.outputs-2.ensures) all in
    omega (arith, few, ap length c.reserve.ensures.nodes)
