use Rattle.std.proofs.Common.{rules, refl, arith, ap, ◌∙◌}
use Rattle.std.proofs.lemmas.List.{get_or_default}
use Rattle.term_store.specs.declared.step.Step.TheVariants as step
use Rattle.term_store.specs.Steps.{step_number}
use Rattle.term_store.proofs.Numbers.{one_more}
use Rattle.term_store.proofs.times.run.Goals as goal

pub loop-place-preserved : goal.loop-place-preserved
loop-place-preserved c =
    let at = get_or_default c.args.steps.now c.loop-place.place (step.Input 0) step.Never (omega arith) in
    record {
      room = search rules;
      numbers = one_more c.args.steps.now c.args.x.now c.loop-place.place c.loop-place.numbers _ c.step_number.result c.requires.steps c.requires.early (omega arith) (omega arith) c.loop-place.invariant.numbers
          (c.step_number.ensures ∙ ap (step_number c.args.x.now c.loop-place.numbers) at) refl;
    }
