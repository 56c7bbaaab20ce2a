use Rattle.std.proofs.Common.{◌*◌, ◌∙◌, ap}
use Rattle.circuit.specs.Circuit as l
use Rattle.cycle_sim.specs.Operations.{at, literal_level}
use Rattle.cycle_sim.proofs.Operated.{literal_even}
use Rattle.cycle_sim.proofs.Planned.{reads, at_once, by_tap}
use Rattle.cycle_sim.proofs.compiling.tapped.Goals as goal

pub returns-in-Some-clause-computes : goal.returns-in-Some-clause-computes
returns-in-Some-clause-computes c =
    let p = c.args.program.now in
    let to = c.in-Some.to in
    let has = c.in-Some.ensures.tap in
    at_once p (λ values. literal_level values (2 * to)) (l.Reg c.args.reg c.args.bit) c.rules.ensures
    (λ s values rep. literal_even values to ∙ rep.tapped has.index (record { to = to; reg = c.args.reg; bit = c.args.bit }) has.tap)

pub returns-clause-computes : goal.returns-clause-computes
returns-clause-computes c =
    let p = c.args.program.now in
    let q = c.tap.new.self in
    let to = c.in_ok-to.to in
    let r = c.args.reg in
    let k = c.args.bit in
    reads p q (λ values. at values p.room) (λ values. literal_level values (2 * to)) (l.Reg r k)
    (λ values low. literal_even values to ∙ ap (λ n. at values n) c.in_ok-to.ensures.place)
    (by_tap p q r k c.rules.ensures c.rules-2.ensures c.in_ok-to.ensures.tap)
