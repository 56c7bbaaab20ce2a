use Rattle.std.proofs.Common.{◌≡◌, ◌*◌, ◌+◌, ◌∙◌, ap, arith}
use Rattle.cycle_sim.specs.Operations.{at, literal_level, with_operation}
use Rattle.cycle_sim.proofs.Operated.{literal_even}
use Rattle.cycle_sim.proofs.Planned.{reads, by_operation}
use Rattle.cycle_sim.proofs.compiling.operated.Goals as goal

pub overflow_mul-result : goal.overflow_mul-result
overflow_mul-result c = omega (arith, c.in_ok-to.ensures.few)

pub returns-clause-computes : goal.returns-clause-computes
returns-clause-computes c = λ p e h.
    let q = c.args.program.now in
    let r = c.operate.new.self in
    let f = c.args.formula in
    let to = c.in_ok-to.to in
    let is : r ≡ with_operation (record q { room = q.room + 1 }) q.room f =
    c.in_ok-operate.ensures ∙ (ap (λ n. with_operation c.place.new.self n f) c.in_ok-to.ensures.place ∙ ap (λ z. with_operation z q.room f) c.in_ok-to.ensures.room) in
    reads p r (λ values. at values q.room) (λ values. literal_level values (2 * to)) e
    (λ values low. literal_even values to ∙ ap (λ n. at values n) c.in_ok-to.ensures.place)
    (by_operation p q r f e c.rules-2.ensures is h)
