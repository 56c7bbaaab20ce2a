use Rattle.std.proofs.Common.{◌≡◌, length, take, vec_len, vec_capacity}
use Rattle.minterm.specs.Steps.{dash_places}
use Rattle.minterm.proofs.row.note_dashes.Given as goal

abbrev pub invariant-loop-input : goal.invariant-loop-input
invariant-loop-input l = record {
  dashes : l.dashes.items ≡ dash_places (take l.input l.inputs) (take l.input l.entries);
  len : vec_len l.dashes ≡ length l.dashes.items;
  capacity : vec_capacity l.dashes ≡ vec_capacity l.initial.dashes;
}
