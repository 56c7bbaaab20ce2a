use Rattle.std.proofs.Common.{ℕ, length, arith, inl, inr, subst, sym}
use Rattle.std.proofs.lemmas.Int.{ints}
use Rattle.diff_bounds.specs.Search.{of, IsOpened}
use Rattle.diff_bounds.proofs.Opening.{visited, has_room}
use Rattle.diff_bounds.proofs.searching.visit.Goals as goal

pub open_input-requires-clause-room : goal.open_input-requires-clause-room
open_input-requires-clause-room c far =
    let room = has_room (length c.args.kept.now) c.args.distances.now (of c.args.turns.now) c.args.limit c.args.reached.now c.args.count c.args.edge.from c.requires.is_open c.requires.long c.requires.from far in
    let long = c.requires.reached in omega (arith, room, long)

pub returns-clause-is_open : goal.returns-clause-is_open
returns-clause-is_open c =
    visited (length c.args.kept.now) (of c.args.kept.now) c.args.distances.now c.args.vias.now c.put_distance.new.distances c.put_number.new.numbers (of c.args.turns.now) c.args.limit
    c.args.reached.now c.open_input.new.reached c.args.count c.open_input.result c.args.number c.args.edge c.requires.is_open c.requires.from c.requires.long c.put_distance.auto.distances
    (inr (record {
      others = λ l. elim (c.put_distance.ensures.others l) [
        | inl q ↦ inl q
        | inr i ↦ elim (c.put_number.ensures.others l) [ inl q ↦ inl q | inr j ↦ inr (i, j) ]
      ];
      less = let here = c.put_distance.ensures.here in let low = c.if-distance-before.false in omega (arith, here, low);
      via = c.put_number.ensures.here;
      exact = let here = c.put_distance.ensures.here in let e = c.reach-distance.ensures in let h = c.requires.height in omega (arith, ints, here, e, h);
    }))
    (subst (λ (after : ℕ). IsOpened (of c.args.distances.now c.args.edge.from) after c.args.limit c.args.edge.from c.args.count c.args.reached.now c.open_input.new.reached c.open_input.result)
    (sym c.put_distance.ensures.here) c.open_input.ensures)
