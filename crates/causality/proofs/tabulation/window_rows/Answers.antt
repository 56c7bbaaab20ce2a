use Rattle.std.proofs.Common.{◌≡◌, List, [], length, rules, sym, ap, ◌∙◌, subst, Ok, Err}
use Rattle.rl_time.specs.declared.time.Time.{Time}
use Rattle.spike_eval.specs.Outputs.{output_function}
use Rattle.causality.specs.Reached.{time_of}
use Rattle.causality.specs.Window.{time_lists}
use Rattle.causality.specs.Walk.{walked, Gives}
use Rattle.causality.proofs.Walking.{whole, refused_whole}
use Rattle.causality.proofs.tabulation.window_rows.Goals as goal

pub returns-in_err-walk-clause-late : goal.returns-in_err-walk-clause-late
returns-in_err-walk-clause-late c =
    let many : length c.deref_mut.result.now ≡ length c.args.n.now.inputs = ap length c.deref_mut.ensures.value ∙ (c.in_ok-list.ensures ∙ ap length c.inputs.ensures) in
    let same : time_of c.in_ok-output.output ≡ output_function c.args.n.now c.args.out = λ i x. c.in_ok-output.ensures x i in
    let late = refused_whole (time_of c.in_ok-output.output) c.args.last (length c.args.n.now.inputs) c.new-rows.result.items c.walk.new.rows.items c.deref_mut.result.now c.in_err-walk.field-0.0 c.new-rows.ensures.items many c.in_err-walk.ensures.rows in
    let late_there = subst (λ (f : List Time → Time). Gives (walked f c.args.last [] (time_lists c.args.last (length c.args.n.now.inputs))) [] (Err c.in_err-walk.field-0.0)) same late in
    search rules

pub returns-clause-rows : goal.returns-clause-rows
returns-clause-rows c =
    let many : length c.deref_mut.result.now ≡ length c.args.n.now.inputs = ap length c.deref_mut.ensures.value ∙ (c.in_ok-list.ensures ∙ ap length c.inputs.ensures) in
    let same : time_of c.in_ok-output.output ≡ output_function c.args.n.now c.args.out = λ i x. c.in_ok-output.ensures x i in
    subst (λ (f : List Time → Time). walked f c.args.last [] (time_lists c.args.last (length c.args.n.now.inputs)) ≡ Ok c.walk.new.rows.items) same
    (sym (whole (time_of c.in_ok-output.output) c.args.last (length c.args.n.now.inputs) c.new-rows.result.items c.deref_mut.result.now c.new-rows.ensures.items many) ∙ c.in_ok-walk.ensures.rows)
