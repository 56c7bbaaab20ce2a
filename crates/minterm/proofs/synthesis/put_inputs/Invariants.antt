use Rattle.std.proofs.Common.{◌≡◌, length, vec_len, vec_capacity}
use Rattle.term_store.specs.Terms.{input_trees}
use Rattle.term_store.specs.Planting.{ArePlanted}
use Rattle.term_store.specs.Room.{TakesRoom}
use Rattle.minterm.proofs.synthesis.put_inputs.Given as goal

abbrev pub invariant-loop-input : goal.invariant-loop-input
invariant-loop-input l = record {
  planted : ArePlanted l.initial.store.nodes l.store.nodes (input_trees l.input) l.inputs.items;
  len : vec_len l.inputs ≡ l.input;
  items : length l.inputs.items ≡ l.input;
  capacity : vec_capacity l.inputs ≡ vec_capacity l.initial.inputs;
  room : TakesRoom l.initial.store l.store l.input;
}
