use Rattle.std.proofs.Common.{refl, arith, subst, ap, length}
use Rattle.net_model.specs.View.{formula}
use Rattle.term_store.specs.Planting.{IsReady}
use Rattle.term_store.proofs.Put.{put_leaf, put_two, put_named, within_more}
use Rattle.term_store.proofs.Ready.{ready_more}
use Rattle.term_store.proofs.Room.{room_after, place_held}
use Rattle.term_store.proofs.Arms.{arm_Min, arm_Max, arm_Lt, arm_Inc, room_Inc}
use Rattle.term_store.specs.declared.node.Node.TheVariants as node
use Rattle.term_store.proofs.build.+planting.Goals as goal

pub put-returns-in-Never-clause-planted : goal.put-returns-in-Never-clause-planted
put-returns-in-Never-clause-planted t c =
    rw c.in-Never.is (put_leaf _ _ _ _ _ c.requires.nodes tt (omega (arith, c.requires.room.places)) c.keep.ensures.nodes c.keep.ensures.within c.keep.ensures.at refl refl)

pub put_pair-put-second-requires : goal.put_pair-put-second-requires
put_pair-put-second-requires t c =
    let p = c.put-first.ensures.planted in
    (omega arith, (p.is_nodes, (λ k d h. within_more _ _ _ p.grown (c.requires.lets k d h), (ready_more _ _ _ _ p.grown c.requires.ready.1, room_after _ _ _ _ _ (omega arith) c.requires.room c.put-first.ensures.room))))

pub put_pair-returns-clause-planted : goal.put_pair-returns-clause-planted
put_pair-returns-clause-planted t c =
    put_two _ _ _ c.args.lets.now (formula c.args.a.now) (formula c.args.b.now) _ _ c.requires.lets c.put-first.ensures.planted c.put-second.ensures.planted

pub put-returns-in-Input-clause-planted : goal.put-returns-in-Input-clause-planted
put-returns-in-Input-clause-planted t c =
    let r = subst (λ e. IsReady c.args.store.now.nodes (length c.args.lets.now) (formula e)) c.in-Input.is c.requires.ready in
    let k = c.keep-in-Input.ensures in
    rw c.in-Input.is (put_leaf _ _ (node.Input c.in-Input.i) _ _ c.requires.nodes r.0 (place_held _ (node.Input c.in-Input.i) c.requires.nodes r.1) k.nodes k.within k.at refl refl)

pub put-returns-in-Named-clause-planted : goal.put-returns-in-Named-clause-planted
put-returns-in-Named-clause-planted t c =
    let r = subst (λ e. IsReady c.args.store.now.nodes (length c.args.lets.now) (formula e)) c.in-Named.is c.requires.ready in
    rw c.in-Named.is (put_named _ _ _ _ c.requires.nodes c.requires.lets r)

pub put-returns-in-Min-clause-planted : goal.put-returns-in-Min-clause-planted
put-returns-in-Min-clause-planted t c =
    let k = c.keep-in-Min.ensures in
    let p = c.put_pair.ensures in
    arm_Min _ _ _ c.args.lets.now (formula c.args.body.now) _ _ (formula c.deref.result.now) (formula c.deref-in-Min.result.now) _ _ _ (ap formula c.in-Min.is) (ap formula c.deref.ensures) (ap formula c.deref-in-Min.ensures) c.requires.room p.planted p.room k.nodes k.within k.at

pub put-returns-in-Max-clause-planted : goal.put-returns-in-Max-clause-planted
put-returns-in-Max-clause-planted t c =
    let k = c.keep-in-Max.ensures in
    let p = c.put_pair-in-Max.ensures in
    arm_Max _ _ _ c.args.lets.now (formula c.args.body.now) _ _ (formula c.deref-in-Max.result.now) (formula c.deref-in-Max-2.result.now) _ _ _ (ap formula c.in-Max.is) (ap formula c.deref-in-Max.ensures) (ap formula c.deref-in-Max-2.ensures) c.requires.room p.planted p.room k.nodes k.within k.at

pub put-returns-in-Lt-clause-planted : goal.put-returns-in-Lt-clause-planted
put-returns-in-Lt-clause-planted t c =
    let k = c.keep-in-Lt.ensures in
    let p = c.put_pair-in-Lt.ensures in
    arm_Lt _ _ _ c.args.lets.now (formula c.args.body.now) _ _ (formula c.deref-in-Lt.result.now) (formula c.deref-in-Lt-2.result.now) _ _ _ (ap formula c.in-Lt.is) (ap formula c.deref-in-Lt.ensures) (ap formula c.deref-in-Lt-2.ensures) c.requires.room p.planted p.room k.nodes k.within k.at

pub put-returns-else-cycles-eq0-clause-planted : goal.put-returns-else-cycles-eq0-clause-planted
put-returns-else-cycles-eq0-clause-planted t c =
    let r = subst (λ e. IsReady c.args.store.now.nodes (length c.args.lets.now) (formula e)) c.in-Inc.is c.requires.ready in
    let k = c.keep-in-Inc.ensures in
    let p = c.put-first.ensures in
    arm_Inc _ _ _ c.args.lets.now (formula c.args.body.now) _ (formula c.deref-in-Inc.result.now) _ _ _ (ap formula c.in-Inc.is) (ap formula c.deref-in-Inc.ensures) c.if-cycles-eq0.false r.1 c.requires.room p.planted p.room k.nodes k.within k.at

pub put-returns-else-cycles-eq0-clause-room : goal.put-returns-else-cycles-eq0-clause-room
put-returns-else-cycles-eq0-clause-room t c =
    let k = c.keep-in-Inc.ensures in
    let p = c.put-first.ensures in
    room_Inc _ _ _ (formula c.args.body.now) _ (formula c.deref-in-Inc.result.now) _ (node.Inc c.put-first.result c.in-Inc.cycles) (ap formula c.in-Inc.is) (ap formula c.deref-in-Inc.ensures) p.room k.nodes k.spare
