use Rattle.std.proofs.Common.{◌≡◌}
use Rattle.term_store.specs.Extracted.{lets_below}
use Rattle.term_store.specs.Extracting.{marked, let_numbers}
use Rattle.term_store.proofs.extract.write_lets.Given as goal

abbrev pub invariant-loop-place : goal.invariant-loop-place
invariant-loop-place l = record {
  lets : l.lets.items ≡ lets_below l.store.nodes (marked l.marks) l.place;
  numbers : l.numbers.items ≡ let_numbers l.store.nodes (marked l.marks) l.place;
}
