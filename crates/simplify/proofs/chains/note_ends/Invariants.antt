use Rattle.std.proofs.Common.{◌≡◌, length, vec_capacity}
use Rattle.simplify.specs.Past.{AreEnds}
use Rattle.simplify.proofs.chains.note_ends.Given as goal

abbrev pub invariant-loop-place : goal.invariant-loop-place
invariant-loop-place l = record {
  ends : AreEnds l.store.nodes l.ends.items;
  len : length l.ends.items ≡ l.place;
  capacity : vec_capacity l.ends ≡ vec_capacity l.fn.ends;
}
