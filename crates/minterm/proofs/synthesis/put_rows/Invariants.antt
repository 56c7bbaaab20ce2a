use Rattle.std.proofs.Common.{◌≡◌, ◌*◌, take, vec_len, vec_capacity}
use Rattle.term_store.specs.Room.{TakesRoom}
use Rattle.minterm.specs.Steps.{AreRowsPlanted}
use Rattle.minterm.proofs.synthesis.put_rows.Given as goal

abbrev pub invariant-loop-row : goal.invariant-loop-row
invariant-loop-row l = record {
  planted : AreRowsPlanted l.initial.store.nodes l.store.nodes (take l.row-index l.rows) l.minterms.items;
  len : vec_len l.minterms ≡ l.row-index;
  numbers : vec_capacity l.numbers ≡ vec_capacity l.initial.numbers;
  dashes : vec_capacity l.dashes ≡ vec_capacity l.initial.dashes;
  minterms : vec_capacity l.minterms ≡ vec_capacity l.initial.minterms;
  room : TakesRoom l.initial.store l.store (48 * l.row-index);
}
