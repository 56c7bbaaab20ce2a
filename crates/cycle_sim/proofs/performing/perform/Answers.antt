use Rattle.std.proofs.Common.{◌∙◌, ap, sym, subst, get_or, set}
use Rattle.std.proofs.lemmas.Option.{slice_get-get_or}
use Rattle.cycle_sim.specs.declared.operation.Operation.{Operation}
use Rattle.cycle_sim.specs.Operations.{done, IsWithin}
use Rattle.cycle_sim.proofs.Operated.{done_more}
use Rattle.cycle_sim.proofs.performing.perform.Goals as goal

abbrev none : Operation
none = record { to = 0; formula = record { first = 0; second = 0; third = 0 } }

pub formula_level-requires : goal.formula_level-requires
formula_level-requires c =
    let k = c.loop-operation.operation-index in
    let os = c.args.operations.now in
    let o = get_or os k none in
    subst (λ n. IsWithin n o.formula) (sym c.loop-operation.auto.values) (c.requires k o (slice_get-get_or os k none c.loop-operation-test.true)).1

pub loop-operation-preserved : goal.loop-operation-preserved
loop-operation-preserved c =
    let k = c.loop-operation.operation-index in
    let os = c.args.operations.now in
    let o = get_or os k none in
    ap (λ b. set c.loop-operation.values o.to b) c.formula_level.ensures
    ∙ (ap (λ z. done z o) c.loop-operation.invariant ∙ sym (done_more c.args.values.now os k none c.loop-operation-test.true))
