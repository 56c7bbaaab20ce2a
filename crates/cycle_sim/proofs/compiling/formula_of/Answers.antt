use Rattle.std.proofs.Common.{◌<◌, ◌/◌, subst, arith}
use Rattle.circuit.specs.View.{logic}
use Rattle.cycle_sim.specs.Operations.{literal_level, formula_level, Computes}
use Rattle.cycle_sim.proofs.Compiled.{alone_within, alone_computes, join_computes}
use Rattle.cycle_sim.proofs.compiling.formula_of.Goals as goal

pub returns-in_ok-rest-in-Or-clause-computes : goal.returns-in_ok-rest-in-Or-clause-computes
returns-in_ok-rest-in-Or-clause-computes c =
    let p = c.args.program.now in
    let q = c.literal_of.new.program in
    let r = c.product_of.new.program in
    let a = c.in_ok-first-in-Or.first in
    let g = c.in_ok-rest-in-Or.rest in
    let x = c.in-Or.x.value in
    let y = c.in-Or.y.value in
    let one : Computes p q (λ values. literal_level values a) (logic x) =
    subst (λ z. Computes p q (λ values. literal_level values a) (logic z)) c.deref.ensures c.in_ok-first-in-Or.ensures.computes in
    let two : Computes q r (λ values. formula_level values g) (logic y) =
    subst (λ z. Computes q r (λ values. formula_level values g) (logic z)) c.deref-in-Or.ensures c.in_ok-rest-in-Or.ensures.computes in
    rw c.in-Or.is (join_computes p q r a g (logic x) (logic y) c.in_ok-rest-in-Or.ensures.low c.in_ok-first-in-Or.ensures.within one two)

pub returns-in_ok-literal_of-in_default : goal.returns-in_ok-literal_of-in_default
returns-in_ok-literal_of-in_default c =
    let p = c.args.program.now in
    let r = c.literal_of-in_default.new.program in
    let n = c.in_ok-literal_of-in_default.field-0 in
    let lt : n / 2 < r.room = c.in_ok-literal_of-in_default.ensures.within in
    record {
      within = alone_within r.room n c.alone.result c.alone.ensures (omega (arith, lt)) lt;
      places = c.in_ok-literal_of-in_default.ensures.places;
      computes = alone_computes p r c.alone.result n (logic c.args.bit.now) c.alone.ensures c.in_ok-literal_of-in_default.ensures.computes;
    }
