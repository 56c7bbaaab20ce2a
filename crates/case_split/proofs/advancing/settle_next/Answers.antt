use Rattle.std.proofs.Common.{◌<◌, ℕ, List, subst, sym, refl}
use Rattle.std.specs.List.{All}
use Rattle.tree_check.specs.declared.form.Form.{Form}
use Rattle.tree_check.specs.Room.{IsWithin}
use Rattle.tree_check.specs.Valid.{listed}
use Rattle.case_split.specs.declared.comparison.Step.TheVariants.{Settled, Chosen}
use Rattle.case_split.specs.Stages.{Stage}
use Rattle.case_split.specs.Walk.{IsAt}
use Rattle.case_split.proofs.Choices.{settled_is_decided}
use Rattle.case_split.proofs.Reaching.{small_forms, decided_at, form_comes, from_input, to_input, from_small, to_small, the_choice, answered, waits_there, yes_form, no_form, choice_comes}
use Rattle.case_split.proofs.advancing.settle_next.Goals as goal

pub step-requires-clause-small : goal.step-requires-clause-small
step-requires-clause-small c =
    subst (λ (fs : List Form). All (IsWithin 1000000) fs) (sym c.forms.ensures) (small_forms c.args.question.now c.args.stages.now.now c.rules.ensures c.requires.at.stage)

pub answer-requires-clause-from : goal.answer-requires-clause-from
answer-requires-clause-from c =
    let waits = waits_there c.args.question.now.nodes c.args.stages.now.now.forms c.forms.result.now (Chosen c.in-Chosen.choice) c.forms.ensures c.in-Chosen.ensures in
    subst (λ (n : ℕ). c.in-Chosen.choice.comparison.from < n) (sym c.requires.inputs) (from_input c.args.question.now c.args.stages.now.now c.in-Chosen.choice c.rules.ensures c.requires.at.stage c.requires.place waits)

pub answer-requires-clause-to : goal.answer-requires-clause-to
answer-requires-clause-to c =
    let waits = waits_there c.args.question.now.nodes c.args.stages.now.now.forms c.forms.result.now (Chosen c.in-Chosen.choice) c.forms.ensures c.in-Chosen.ensures in
    subst (λ (n : ℕ). c.in-Chosen.choice.comparison.to < n) (sym c.requires.inputs) (to_input c.args.question.now c.args.stages.now.now c.in-Chosen.choice c.rules.ensures c.requires.at.stage c.requires.place waits)

pub answer-requires-clause-from_cycles : goal.answer-requires-clause-from_cycles
answer-requires-clause-from_cycles c =
    let waits = waits_there c.args.question.now.nodes c.args.stages.now.now.forms c.forms.result.now (Chosen c.in-Chosen.choice) c.forms.ensures c.in-Chosen.ensures in
    from_small c.args.question.now c.args.stages.now.now c.in-Chosen.choice c.rules.ensures c.requires.at.stage c.requires.place waits

pub answer-requires-clause-to_cycles : goal.answer-requires-clause-to_cycles
answer-requires-clause-to_cycles c =
    let waits = waits_there c.args.question.now.nodes c.args.stages.now.now.forms c.forms.result.now (Chosen c.in-Chosen.choice) c.forms.ensures c.in-Chosen.ensures in
    to_small c.args.question.now c.args.stages.now.now c.in-Chosen.choice c.rules.ensures c.requires.at.stage c.requires.place waits

pub returns-in-None-clause-at : goal.returns-in-None-clause-at
returns-in-None-clause-at c =
    let e = c.in_ok-answer-in-Chosen.ensures in
    answered c.args.question.now c.args.stages.now.now c.answer.new.self.now c.args.stages.now.inputs e.facts.0 c.requires.at c.requires.inputs e.path e.facts.1 e.forms e.facts.2 e.facts.3

pub returns-in_ok-settle-in-Settled-clause-at : goal.returns-in_ok-settle-in-Settled-clause-at
returns-in_ok-settle-in-Settled-clause-at c =
    let s = c.args.stages.now.now in
    let waits = waits_there c.args.question.now.nodes s.forms c.forms.result.now (Settled c.in-Settled.form) c.forms.ensures c.in-Settled.ensures in
    subst (λ (t : Stage). IsAt c.args.question.now t) (sym c.in_ok-settle-in-Settled.ensures.now)
    (form_comes c.args.question.now s (Settled c.in-Settled.form) c.in-Settled.form c.rules.ensures c.requires.at.stage c.requires.place waits refl
    (settled_is_decided s.forms _ c.in-Settled.form (λ k. decided_at s.forms k c.requires.at.stage.decided) waits) c.requires.at)

pub returns-in_ok-settle-in-Some-true-clause-at : goal.returns-in_ok-settle-in-Some-true-clause-at
returns-in_ok-settle-in-Some-true-clause-at c =
    let s = c.args.stages.now.now in
    let e = c.in_ok-answer-in-Chosen.ensures in
    let waits = waits_there c.args.question.now.nodes s.forms c.forms.result.now (Chosen c.in-Chosen.choice) c.forms.ensures c.in-Chosen.ensures in
    let at = answered c.args.question.now s c.answer.new.self.now c.args.stages.now.inputs e.facts.0 c.requires.at c.requires.inputs e.path e.facts.1 e.forms e.facts.2 e.facts.3 in
    let some = rw c.in-Some-true.is at e.answer in
    let yes_so = rw c.in-Some-true.field-0-test at some in
    choice_comes c.args.question.now s c.answer.new.self.now c.settle-in-Some-true.new.self.now c.in-Chosen.choice c.in-Chosen.choice.yes c.rules.ensures c.requires.at at c.requires.place waits e.forms
    (yes_form (listed c.answer.new.self.now.facts) c.in-Chosen.choice yes_so) (the_choice c.args.question.now s c.in-Chosen.choice c.rules.ensures c.requires.at.stage c.requires.place waits).yes_decided c.in_ok-settle-in-Some-true.ensures.now

pub returns-in_ok-settle-in-Some-false-clause-at : goal.returns-in_ok-settle-in-Some-false-clause-at
returns-in_ok-settle-in-Some-false-clause-at c =
    let s = c.args.stages.now.now in
    let e = c.in_ok-answer-in-Chosen.ensures in
    let waits = waits_there c.args.question.now.nodes s.forms c.forms.result.now (Chosen c.in-Chosen.choice) c.forms.ensures c.in-Chosen.ensures in
    let at = answered c.args.question.now s c.answer.new.self.now c.args.stages.now.inputs e.facts.0 c.requires.at c.requires.inputs e.path e.facts.1 e.forms e.facts.2 e.facts.3 in
    let some = rw c.in-Some-false.is at e.answer in
    let no_so = rw c.in-Some-false.field-0-test at some in
    choice_comes c.args.question.now s c.answer.new.self.now c.settle-in-Some-false.new.self.now c.in-Chosen.choice c.in-Chosen.choice.no c.rules.ensures c.requires.at at c.requires.place waits e.forms
    (no_form (listed c.answer.new.self.now.facts) c.in-Chosen.choice no_so) (the_choice c.args.question.now s c.in-Chosen.choice c.rules.ensures c.requires.at.stage c.requires.place waits).no_decided c.in_ok-settle-in-Some-false.ensures.now
