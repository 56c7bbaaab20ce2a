use Rattle.std.proofs.Common.{◌≡◌, take, vec_len}
use Rattle.term_store.specs.Extracted.{root_outputs}
use Rattle.term_store.specs.Extracting.{numbered}
use Rattle.term_store.proofs.extract.write_outputs.Given as goal

abbrev pub invariant-loop-root : goal.invariant-loop-root
invariant-loop-root l = record {
  outputs : l.outputs.items ≡ root_outputs l.store.nodes (numbered l.numbers) (take l.root-index l.roots) l.names;
  len : vec_len l.outputs ≡ l.root-index;
}
