use Rattle.std.proofs.Common.{◌≡◌, map, take}
use Rattle.term_store.specs.Compacted.{new_place}
use Rattle.term_store.proofs.compact.move_roots.Given as goal

abbrev pub invariant-loop-root : goal.invariant-loop-root
invariant-loop-root l = l.places.items ≡ map (λ t. new_place l.moved t.0) (take l.root-index l.roots)
