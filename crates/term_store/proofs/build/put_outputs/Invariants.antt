use Rattle.std.proofs.Common.{◌≡◌, ◌≤◌, length, take, map, vec_len, vec_capacity}
use Rattle.term_store.specs.Terms.{tree_over}
use Rattle.term_store.specs.Trees.{trees_at}
use Rattle.term_store.specs.Planting.{TakesRoomBesideNever, ArePlanted, all_operators}
use Rattle.term_store.proofs.build.put_outputs.Given as goal

abbrev pub invariant-loop-binding : goal.invariant-loop-binding
invariant-loop-binding l = record {
  planted : ArePlanted l.initial.store.nodes l.store.nodes (map (λ e. tree_over (trees_at l.initial.store.nodes l.lets) e.body) (take l.binding-index l.bindings)) l.places.items;
  len : vec_len l.places ≡ l.binding-index;
  capacity : length l.bindings ≤ vec_capacity l.places;
  room : TakesRoomBesideNever l.initial.store l.store (all_operators (take l.binding-index l.bindings));
}
