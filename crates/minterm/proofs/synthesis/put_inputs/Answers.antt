use Rattle.std.proofs.Common.{◌+◌, ap, arith, add-one, sym, subst, ◌∙◌, length}
use Rattle.std.proofs.lemmas.List.{length_push}
use Rattle.term_store.specs.Tree.{Input}
use Rattle.term_store.specs.Terms.{input_trees}
use Rattle.term_store.specs.Planting.{ArePlanted}
use Rattle.minterm.proofs.Planted.{one_more}
use Rattle.minterm.proofs.Rooms.{room_then, one_node}
use Rattle.minterm.proofs.synthesis.put_inputs.Goals as goal

pub loop-input-preserved : goal.loop-input-preserved
loop-input-preserved c =
    let i = c.loop-input.input in
    let before = c.loop-input.invariant in
    let p = c.push_reserved.ensures in
    record {
      planted =
          subst (ArePlanted c.args.store.now.nodes c.put-place.new.self.nodes (input_trees (i + 1))) (sym p.items)
          (rw (add-one i) (one_more c.planting_laws.ensures _ _ _ (input_trees i) c.loop-input.inputs.items (Input i) c.put-place.result before.planted c.put-place.ensures.planted));
      len = p.len ∙ ap (λ k. k + 1) before.len;
      items = ap length p.items ∙ (length_push c.loop-input.inputs.items c.put-place.result ∙ ap (λ k. k + 1) before.items);
      capacity = p.capacity ∙ before.capacity;
      room = room_then _ _ _ i 1 _ (omega arith) before.room (one_node _ _ c.put-place.ensures.few c.put-place.ensures.spare);
    }
