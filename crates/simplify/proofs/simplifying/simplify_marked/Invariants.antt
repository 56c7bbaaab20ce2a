use Rattle.std.proofs.Common.{◌≡◌, map, ◌≤◌, ◌+◌, length, vec_capacity}
use Rattle.term_store.specs.Nodes.{IsNodes}
use Rattle.term_store.specs.Trees.{plant, IsPrefix}
use Rattle.term_store.specs.Places.{is_marked}
use Rattle.term_store.specs.Compacted.{trees_where}
use Rattle.simplify.specs.Simplified.{simplified}
use Rattle.term_store.specs.Room.{TakesRoom}
use Rattle.simplify.specs.Passing.{AreMarked, AreSimplified}
use Rattle.simplify.specs.Past.{AreEnds}
use Rattle.simplify.proofs.simplifying.simplify_marked.Given as goal

abbrev pub invariant-loop-place : goal.invariant-loop-place
invariant-loop-place l = record {
  nodes : IsNodes l.store.nodes;
  grown : IsPrefix l.fn.store.nodes l.store.nodes;
  marked : AreMarked l.store.nodes l.marks;
  planted : l.store.nodes ≡ plant l.fn.store.nodes (map simplified (trees_where l.fn.store.nodes (is_marked l.marks) l.place));
  simplified : AreSimplified l.store.nodes l.marks l.place l.became.items;
  room : TakesRoom l.fn.store l.store l.place;
  capacity : length l.marks ≤ vec_capacity l.became;
  ends : AreEnds l.store.nodes l.ends.items;
  all : length l.ends.items ≡ length l.store.nodes;
  ends_capacity : length l.fn.store.nodes + length l.marks ≤ vec_capacity l.ends;
}
