-- One run of a plan.
use Rattle.std.proofs.Common.{◌≡◌, ℕ, ◌+◌, ◌<◌, ◌≤◌, Bool, List, length, ◌∙◌, sym, subst, arith, Some}
use Rattle.std.specs.Prelude.{slice_get}
use Rattle.circuit.specs.Circuit.{Circuit}
use Rattle.circuit.specs.Meaning.{State, activate_all, upto}
use Rattle.circuit.proofs.Settling.{all_keep}
use Rattle.cycle_sim.specs.declared.operation.Tap.{Tap}
use Rattle.cycle_sim.specs.Operations.{at, all_done, wire_place, out_place, free_place, Plan, IsSound, AreLaid, AreTapped, Represents, IsPlan}

-- levels of inputs, wires and outputs, kept while taps are made
pub represented : (p : Plan) (s : State) (laid_at values : List Bool) → IsSound p → p.room ≤ length values → AreLaid p.places s laid_at → AreTapped p.taps s values →
    ((q : ℕ) → ((j : ℕ) (t : Tap) → slice_get p.taps j ≡ Some t → q < t.to) → at values q ≡ at laid_at q) → Represents p s values
represented p s laid_at values h room laid tapped rest =
    let same : (q : ℕ) → q < free_place p.places → at values q ≡ at laid_at q =
    λ q lt. rest q (λ j t there. let k = (h.taps j t there).0 in omega (arith, k, lt)) in
    record {
      room = room;
      laid = record {
        wire_count = laid.wire_count;
        out_count = laid.out_count;
        low = same 0 (omega arith) ∙ laid.low;
        inputs = λ i lt. same (1 + i) (omega arith) ∙ laid.inputs i lt;
        wires = λ w lt. same (wire_place p.places w) (omega arith) ∙ laid.wires w lt;
        outs = λ o lt. same (out_place p.places o) (omega arith) ∙ laid.outs o lt;
      };
      tapped = tapped;
    }

-- the state that is taken after all operations is the one after all activations
pub ran : (m : Circuit) (p : Plan) (old new : State) (before after : List Bool) → IsPlan m p → Represents p old before → after ≡ all_done before p.operations →
    ((s : State) → AreLaid p.places s after → s.inputs ≡ old.inputs → s.regs ≡ old.regs → new ≡ s) → new ≡ activate_all m old (upto 0 (length m.assigns))
ran m p old new before after plan rep done store =
    let s = activate_all m old (upto 0 (length m.assigns)) in
    let keeps = all_keep m old (upto 0 (length m.assigns)) in
    let end : Represents p s after = subst (λ z. Represents p s z) (sym done) (plan.run old before rep) in
    store s end.laid (sym keeps.inputs) (sym keeps.regs)
