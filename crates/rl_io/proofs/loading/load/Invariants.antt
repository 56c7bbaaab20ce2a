use Rattle.std.proofs.Common.{◌≡◌, ◌≤◌, length, ◌+◌, ◌-◌, ◌^◌, min, vec_len}
use Rattle.rl_io.proofs.Reading.{HasRead}
use Rattle.rl_io.proofs.loading.load.Given as goal

abbrev pub invariant-loop-text : goal.invariant-loop-text
invariant-loop-text g l = record {
  most : l.most ≡ l.limit;
  size : vec_len l.piece ≡ 1048576;
  short : length l.text.items ≤ l.limit + 1;
  planned : g.S.Shelf.plan l.shelf ≡ g.S.Shelf.plan l.initial.shelf;
  kept : g.S.Shelf.given l.initial.shelf ≤ g.S.Shelf.given l.shelf;
  asked : g.S.Shelf.given l.shelf ≤ g.S.Shelf.given l.initial.shelf + length l.text.items;
  contents : g.S.Shelf.contents l.shelf ≡ g.S.Shelf.contents l.initial.shelf;
  later : (n : _) → g.S.Shelf.faults l.initial.shelf n ≤ g.S.Shelf.faults l.shelf n;
  read : HasRead (g.S.Shelf.contents l.initial.shelf) l.name l.text.items;
  given : min (g.S.Shelf.given l.initial.shelf + length l.text.items) (2 ^ 64 - 1) ≤ g.S.Shelf.given l.shelf;
}

abbrev pub decreases-loop-text : goal.decreases-loop-text
decreases-loop-text g l = l.limit + 1 - vec_len l.text
