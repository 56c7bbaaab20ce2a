use Rattle.std.proofs.Common.{arith}
use Rattle.diff_bounds.proofs.Least.{lt_of, le_of}
use Rattle.diff_bounds.proofs.Kept.{held, are_met}
use Rattle.diff_bounds.proofs.Lifting.{not_held}
use Rattle.diff_bounds.proofs.judging.is_implied.Goals as goal

pub lead-requires-clause-met : goal.lead-requires-clause-met
lead-requires-clause-met c = are_met c.args.n c.args.edges.now c.args.kept.now c.requires.bounds

pub returns-clause-implied : goal.returns-clause-implied
returns-clause-implied c t =
    let room = c.room-room.result in
    let lt = lt_of c.distance.result room t in
    let at = c.distance.ensures in
    held c.args.n c.args.edges.now c.args.kept.now c.run.new.self c.args.edge.from c.args.edge.to room _ room c.args.edge.bound
    c.requires.bounds c.run.ensures c.requires.near.from (omega (arith, lt, at)) c.room-room.ensures.room

pub returns-clause-not_implied : goal.returns-clause-not_implied
returns-clause-not_implied c f =
    let room = c.room-room.result in
    let le = le_of c.distance.result room f in
    let at = c.distance.ensures in
    let most = c.lead.ensures.most in
    not_held c.args.n c.args.edges.now c.args.kept.now c.run.new.self c.args.edge.from c.args.edge.to room _ room c.lead.result c.args.edge.bound
    c.requires.bounds c.run.ensures c.requires.near.from c.lead.ensures.lead (omega arith) (omega (arith, most)) (omega arith) (omega (arith, le, at)) c.room-room.ensures.room
