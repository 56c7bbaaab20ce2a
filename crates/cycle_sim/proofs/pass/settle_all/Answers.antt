use Rattle.std.proofs.Common.{◌∙◌, sym, subst, ap, length}
use Rattle.circuit.specs.Meaning.{State, IsSettled, upto}
use Rattle.circuit.proofs.Settling.{all_keep}
use Rattle.marked_steps.proofs.Filling.{in_order_alone}
use Rattle.cycle_sim.proofs.pass.settle_all.Goals as goal

pub returns-clause-settled : goal.returns-clause-settled
returns-clause-settled c =
    let m = c.args.m.now in
    let all = upto 0 (length m.assigns) in
    subst (λ z. IsSettled m z) (sym c.run.ensures.levels)
    (c.settles_in_order.ensures m c.rules.ensures.ordered c.args.levels.now all c.requires.levels.rest (in_order_alone 0 (length m.assigns)))

pub returns-clause-inputs : goal.returns-clause-inputs
returns-clause-inputs c =
    let m = c.args.m.now in
    ap (λ (s : State). s.inputs) c.run.ensures.levels ∙ sym (all_keep m c.args.levels.now (upto 0 (length m.assigns))).inputs

pub returns-clause-regs : goal.returns-clause-regs
returns-clause-regs c =
    let m = c.args.m.now in
    ap (λ (s : State). s.regs) c.run.ensures.levels ∙ sym (all_keep m c.args.levels.now (upto 0 (length m.assigns))).regs
