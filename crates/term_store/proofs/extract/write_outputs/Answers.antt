use Rattle.std.proofs.Common.{◌∙◌, arith}
use Rattle.std.proofs.lemmas.Grind.{common_steps}
use Rattle.term_store.specs.Extracting.{numbered}
use Rattle.term_store.proofs.Lets.{output_pushed}
use Rattle.term_store.proofs.extract.write_outputs.Goals as goal

pub loop-root-preserved : goal.loop-root-preserved
loop-root-preserved c =
    let before = c.loop-root.invariant in
    record {
      outputs = output_pushed c.args.store.now.nodes (numbered c.args.numbers.now) c.args.roots.now c.args.names.now c.loop-root.root-index c.len.result _ _ _ c.in_ok-name.name _ _ c.index-names-len.result c.requires.one_name c.loop-root-test.true (c.len.ensures ∙ before.len) before.outputs c.in_ok-push.ensures.items c.new-in-loop-root.ensures (c.in_ok-name.ensures ∙ c.bytes.ensures ∙ c.index-names-len.is) c.operand.ensures.operand;
      len = grind (arith, common_steps);
    }
