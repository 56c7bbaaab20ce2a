use Rattle.std.proofs.Common.{◌≡◌, ◌≤◌, length, take, vec_len, vec_capacity}
use Rattle.term_store.specs.Planting.{ArePlanted}
use Rattle.minterm.specs.Minterms.{number_terms}
use Rattle.term_store.specs.Room.{TakesRoom}
use Rattle.minterm.proofs.row.put_numbers.Given as goal

abbrev pub invariant-loop-input : goal.invariant-loop-input
invariant-loop-input l = record {
  planted : ArePlanted l.initial.store.nodes l.store.nodes (number_terms l.row.out 0 (take l.input l.row.entries)) l.numbers.items;
  len : vec_len l.numbers ≡ length l.numbers.items;
  few : length l.numbers.items ≤ l.input;
  capacity : vec_capacity l.numbers ≡ vec_capacity l.initial.numbers;
  room : TakesRoom l.initial.store l.store (length l.numbers.items);
}
