use Rattle.std.proofs.Common.{◌≡◌, ℕ, ◌<◌, true}
use Rattle.term_store.specs.declared.node.Node.TheVariants as node
use Rattle.term_store.specs.Terms.{input_trees}
use Rattle.term_store.specs.Nodes.{holds, IsNodes}
use Rattle.term_store.specs.Trees.{plant, IsPrefix}
use Rattle.term_store.specs.Planting.{TakesRoomBesideNever}
use Rattle.term_store.proofs.build.put_inputs.Given as goal

abbrev pub invariant-loop-input : goal.invariant-loop-input
invariant-loop-input l = record {
  nodes : l.store.nodes ≡ plant l.initial.store.nodes (input_trees l.input);
  is_nodes : IsNodes l.store.nodes;
  grown : IsPrefix l.initial.store.nodes l.store.nodes;
  held : (i : ℕ) → i < l.input → holds l.store.nodes (node.Input i) ≡ true;
  room : TakesRoomBesideNever l.initial.store l.store l.input;
}
