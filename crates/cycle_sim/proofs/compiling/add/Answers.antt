use Rattle.std.proofs.Common.{◌≡◌, ◌∙◌, ap, subst}
use Rattle.cycle_sim.specs.Operations.{formula_level, target_place, Computes}
use Rattle.cycle_sim.proofs.Compiled.{activates}
use Rattle.cycle_sim.proofs.compiling.add.Goals as goal

pub returns : goal.returns
returns c =
    let p = c.args.program.now in
    let q = c.formula_of.new.program in
    let a = c.args.assign.now in
    let f = c.in_ok-formula.formula in
    let there : c.target-to.result ≡ target_place q.places a.target = c.target-to.ensures ∙ ap (λ t. target_place q.places t) c.target.ensures in
    activates p q c.operate.new.self a f c.target-to.result there c.in_ok-operate.ensures c.rules-2.ensures c.requires.target
    (subst (λ e. Computes p q (λ values. formula_level values f) e) c.bit.ensures c.in_ok-formula.ensures.computes)
