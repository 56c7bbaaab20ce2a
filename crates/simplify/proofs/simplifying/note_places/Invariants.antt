use Rattle.std.proofs.Common.{◌≡◌, ◌≤◌, map, take, length, vec_capacity}
use Rattle.term_store.specs.Compacted.{new_place}
use Rattle.simplify.proofs.simplifying.note_places.Given as goal

abbrev pub invariant-loop-root : goal.invariant-loop-root
invariant-loop-root l = record {
  places : l.places.items ≡ map (λ t. new_place l.became t.0) (take l.root-index l.roots);
  capacity : length l.roots ≤ vec_capacity l.places;
}
