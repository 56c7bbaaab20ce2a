use Rattle.std.proofs.Common.{◌≡◌, ◌≤◌, length, take, vec_len, vec_capacity}
use Rattle.term_store.specs.Terms.{let_trees}
use Rattle.term_store.specs.Planting.{TakesRoomBesideNever, ArePlanted, all_operators}
use Rattle.term_store.proofs.build.put_lets.Given as goal

abbrev pub invariant-loop-binding : goal.invariant-loop-binding
invariant-loop-binding l = record {
  planted : ArePlanted l.initial.store.nodes l.store.nodes (let_trees (take l.binding-index l.bindings)) l.lets.items;
  len : vec_len l.lets ≡ l.binding-index;
  capacity : length l.bindings ≤ vec_capacity l.lets;
  room : TakesRoomBesideNever l.initial.store l.store (all_operators (take l.binding-index l.bindings));
}
