use Rattle.std.proofs.Common.{◌<◌, ◌+◌, ◌*◌, ◌∙◌, ap, subst, not}
use Rattle.std.proofs.lemmas.Result.{IfOk-weaker}
use Rattle.circuit.specs.Circuit as l
use Rattle.circuit.specs.View.{logic}
use Rattle.cycle_sim.specs.Operations.{at, literal_level, Fits, Computes}
use Rattle.cycle_sim.proofs.Operated.{literal_even}
use Rattle.cycle_sim.proofs.Planned.{at_once}
use Rattle.cycle_sim.proofs.Compiled.{not_computes, and_computes, or_computes}
use Rattle.cycle_sim.proofs.compiling.+literal_of.Goals as goal

pub returns-in-Zero-clause-computes : goal.returns-in-Zero-clause-computes
returns-in-Zero-clause-computes t c =
    let p = c.args.program.now in
    rw c.in-Zero.is (at_once p (λ values. literal_level values 0) l.Zero c.rules.ensures (λ s values rep. rep.laid.low))

pub returns-in-One-clause-computes : goal.returns-in-One-clause-computes
returns-in-One-clause-computes t c =
    let p = c.args.program.now in
    rw c.in-One.is (at_once p (λ values. literal_level values 1) l.One c.rules.ensures (λ s values rep. ap (λ z. not z) rep.laid.low))

pub returns-in-Input-clause-computes : goal.returns-in-Input-clause-computes
returns-in-Input-clause-computes t c =
    let p = c.args.program.now in
    let i = c.in-Input.input in
    let lt : i < p.places.inputs = subst (λ b. Fits p.places (logic b)) c.in-Input.is c.requires in
    rw c.in-Input.is (at_once p (λ values. literal_level values (2 * (1 + i))) (l.Input i) c.rules.ensures
    (λ s values rep. literal_even values (1 + i) ∙ rep.laid.inputs i lt))

pub returns-in-Wire-clause-computes : goal.returns-in-Wire-clause-computes
returns-in-Wire-clause-computes t c =
    let p = c.args.program.now in
    let w = c.in-Wire.wire in
    let n = c.target.result in
    let lt : w < p.places.wires = subst (λ b. Fits p.places (logic b)) c.in-Wire.is c.requires in
    rw c.in-Wire.is (at_once p (λ values. literal_level values (2 * n)) (l.Wire w) c.rules.ensures
    (λ s values rep. literal_even values n ∙ (ap (λ z. at values z) c.target.ensures ∙ rep.laid.wires w lt)))

pub returns-in_ok-literal-in-Not-clause-computes : goal.returns-in_ok-literal-in-Not-clause-computes
returns-in_ok-literal-in-Not-clause-computes t c =
    let p = c.args.program.now in
    let r = c.literal_of.new.program in
    let n = c.in_ok-literal-in-Not.literal in
    let x = c.in-Not.x.value in
    let one : Computes p r (λ values. literal_level values n) (logic x) =
    subst (λ b. Computes p r (λ values. literal_level values n) (logic b)) c.deref.ensures c.in_ok-literal-in-Not.ensures.computes in
    rw c.in-Not.is (not_computes p r n c.other.result (logic x) c.other.ensures.level one)

pub returns-in_ok-third-in-And-clause-computes : goal.returns-in_ok-third-in-And-clause-computes
returns-in_ok-third-in-And-clause-computes t c =
    let p = c.args.program.now in
    let q = c.literal_of-in-And.new.program in
    let r = c.literal_of-in-And-2.new.program in
    let a = c.in_ok-second-in-And.second in
    let b = c.in_ok-third-in-And.third in
    let x = c.in-And.x.value in
    let y = c.in-And.y.value in
    let one : Computes p q (λ values. literal_level values a) (logic x) =
    subst (λ z. Computes p q (λ values. literal_level values a) (logic z)) c.deref-in-And.ensures c.in_ok-second-in-And.ensures.computes in
    let two : Computes q r (λ values. literal_level values b) (logic y) =
    subst (λ z. Computes q r (λ values. literal_level values b) (logic z)) c.deref-in-And-2.ensures c.in_ok-third-in-And.ensures.computes in
    rw c.in-And.is (IfOk-weaker c.operated.result _ _ (λ n h. h p (l.And (logic x) (logic y)) (and_computes p q r a b (logic x) (logic y) c.in_ok-second-in-And.ensures.within one two))
    c.operated.ensures.computes)

pub returns-in_ok-third-in-Or-clause-computes : goal.returns-in_ok-third-in-Or-clause-computes
returns-in_ok-third-in-Or-clause-computes t c =
    let p = c.args.program.now in
    let q = c.literal_of-in-Or.new.program in
    let r = c.literal_of-in-Or-2.new.program in
    let a = c.in_ok-first-in-Or.first in
    let b = c.in_ok-third-in-Or.third in
    let x = c.in-Or.x.value in
    let y = c.in-Or.y.value in
    let one : Computes p q (λ values. literal_level values a) (logic x) =
    subst (λ z. Computes p q (λ values. literal_level values a) (logic z)) c.deref-in-Or.ensures c.in_ok-first-in-Or.ensures.computes in
    let two : Computes q r (λ values. literal_level values b) (logic y) =
    subst (λ z. Computes q r (λ values. literal_level values b) (logic z)) c.deref-in-Or-2.ensures c.in_ok-third-in-Or.ensures.computes in
    rw c.in-Or.is (IfOk-weaker c.operated-in-Or.result _ _ (λ n h. h p (l.Or (logic x) (logic y)) (or_computes p q r a b (logic x) (logic y) c.in_ok-first-in-Or.ensures.within one two))
    c.operated-in-Or.ensures.computes)
