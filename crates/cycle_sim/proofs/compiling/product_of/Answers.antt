use Rattle.std.proofs.Common.{◌<◌, ◌/◌, ap, subst, arith}
use Rattle.circuit.specs.View.{logic}
use Rattle.cycle_sim.specs.Operations.{literal_level, Computes}
use Rattle.cycle_sim.specs.declared.operation.Formula.{Formula}
use Rattle.cycle_sim.proofs.Compiled.{only_factor_within, only_factor_computes, and_computes}
use Rattle.cycle_sim.proofs.compiling.product_of.Goals as goal

pub returns-in_ok-third-in-And-clause-computes : goal.returns-in_ok-third-in-And-clause-computes
returns-in_ok-third-in-And-clause-computes c =
    let p = c.args.program.now in
    let q = c.literal_of.new.program in
    let r = c.literal_of-in-And.new.program in
    let a = c.in_ok-second-in-And.second in
    let b = c.in_ok-third-in-And.third in
    let x = c.in-And.x.value in
    let y = c.in-And.y.value in
    let one : Computes p q (λ values. literal_level values a) (logic x) =
    subst (λ z. Computes p q (λ values. literal_level values a) (logic z)) c.deref.ensures c.in_ok-second-in-And.ensures.computes in
    let two : Computes q r (λ values. literal_level values b) (logic y) =
    subst (λ z. Computes q r (λ values. literal_level values b) (logic z)) c.deref-in-And.ensures c.in_ok-third-in-And.ensures.computes in
    rw c.in-And.is (and_computes p q r a b (logic x) (logic y) c.in_ok-second-in-And.ensures.within one two)

pub returns-in_ok-literal_of-in_default : goal.returns-in_ok-literal_of-in_default
returns-in_ok-literal_of-in_default c =
    let p = c.args.program.now in
    let r = c.literal_of-in_default.new.program in
    let n = c.in_ok-literal_of-in_default.field-0 in
    let lt : n / 2 < r.room = c.in_ok-literal_of-in_default.ensures.within in
    record {
      low = ap (λ (f : Formula). f.first) c.only_factor.ensures;
      within = only_factor_within r.room n c.only_factor.result c.only_factor.ensures (omega (arith, lt)) lt;
      places = c.in_ok-literal_of-in_default.ensures.places;
      computes = only_factor_computes p r c.only_factor.result n (logic c.args.bit.now) c.only_factor.ensures c.in_ok-literal_of-in_default.ensures.computes;
    }
