use Rattle.std.proofs.Common.{◌≡◌, ◌∙◌, ◌+◌, suc, arith, ap, sym, take, get_or, ◌++◌, ◌∷◌, [], refl}
use Rattle.std.proofs.lemmas.Option.{slice_get-get_or, slice_get_read}
use Rattle.gate_lower.specs.Netlist.{Output}
use Rattle.gate_lower.specs.Lowered.{outputs_of}
use Rattle.gate_lower.proofs.Outputs.{outputs_more, same_output}
use Rattle.gate_lower.proofs.lowering.out_lines.Goals as goal

pub loop-place-preserved : goal.loop-place-preserved
loop-place-preserved c =
    let nodes = c.args.store.now.nodes in
    let marks = c.args.plan.now.marks.items in
    let roots = c.args.roots.now in
    let names = c.args.names.now in
    let i = c.loop-place.place in
    let n = c.index-names-place.result in
    let s : suc i ≡ i + 1 = omega arith in
    let r = get_or roots i (record { 0 = 0 }) in
    c.in_ok-push.ensures.items ∙ (ap (λ xs. xs ++ c.new-in-loop-place.result ∷ []) c.loop-place.invariant
    ∙ (ap (λ (z : Output). outputs_of nodes marks (take i roots) (take i names) ++ z ∷ []) (c.new-in-loop-place.ensures ∙ same_output _ _ _ _ (c.in_ok-copy.ensures ∙ c.bytes.ensures) c.line.ensures.line)
    ∙ (sym (outputs_more nodes marks roots names i r _ (slice_get-get_or roots i (record { 0 = 0 }) (omega (arith, c.loop-place-test.true, c.requires.one_each))) (slice_get_read names _ i n refl c.loop-place-test.true c.index-names-place.is)) ∙ ap (λ k. outputs_of nodes marks (take k roots) (take k names)) s)))
