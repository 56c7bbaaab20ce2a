use Rattle.std.proofs.Common.{sym, subst, ap, ◌∙◌, length, List, ℕ}
use Rattle.std.specs.List.{All}
use Rattle.std.proofs.lemmas.Bool.{MatchBool-at_true, MatchBool-at_false}
use Rattle.refutation.specs.declared.item.Fact.{Fact}
use Rattle.tree_check.specs.Forms.{form_at}
use Rattle.tree_check.specs.Valid.{listed}
use Rattle.case_split.specs.Task.{IsFact}
use Rattle.term_store.specs.Trees.{tree}
use Rattle.case_split.specs.Leaves.{IsFormOver, AreApart}
use Rattle.case_split.proofs.Judged.{form_over, first_within, second_within, facts_are, equal_end, different_end, equal_as, apart_as}
use Rattle.case_split.proofs.leaf.judge.Goals as goal

pub are_equal-requires-clause-first : goal.are_equal-requires-clause-first
are_equal-requires-clause-first c =
    let w = c.requires.whole.1 in
    subst (IsFormOver c.args.stages.now.inputs) (sym (c.form_at-f.ensures ∙ ap (λ forms. form_at forms c.args.first.0) c.forms.ensures))
    (form_over c.requires.whole.0 c.args.stages.now c.args.first c.args.second w c.args.first.0 (first_within c.requires.whole.0 c.args.stages.now c.args.first c.args.second w))

pub are_equal-requires-clause-second : goal.are_equal-requires-clause-second
are_equal-requires-clause-second c =
    let w = c.requires.whole.1 in
    subst (IsFormOver c.args.stages.now.inputs) (sym (c.form_at-g.ensures ∙ ap (λ forms. form_at forms c.args.second.0) c.forms-2.ensures))
    (form_over c.requires.whole.0 c.args.stages.now c.args.first c.args.second w c.args.second.0 (second_within c.requires.whole.0 c.args.stages.now c.args.first c.args.second w))

pub gathered-requires-clause-facts : goal.gathered-requires-clause-facts
gathered-requires-clause-facts c =
    subst (λ (n : ℕ). All (IsFact n) c.facts.result.now) (sym (c.kept-inputs.ensures.long ∙ c.are_equal.ensures.inputs))
    (subst (λ (fs : List Fact). All (IsFact c.args.stages.now.inputs) fs) (sym c.facts.ensures)
    (facts_are c.requires.whole.0 c.args.stages.now c.args.first c.args.second c.requires.whole.1 c.are_equal.new.stages.now.facts c.in_ok-are_equal.ensures.facts))

pub returns-in_ok-gathered-clause-ending : goal.returns-in_ok-gathered-clause-ending
returns-in_ok-gathered-clause-ending c = λ task w.
    equal_end task c.args.stages.now c.args.first c.args.second w c.are_equal.new.stages.now.facts c.facts.result.now c.in_ok-gathered.field-0 (length c.kept-inputs.result.now)
    c.facts.ensures (c.kept-inputs.ensures.long ∙ c.are_equal.ensures.inputs) c.in_ok-are_equal.ensures.facts
    (equal_as (listed c.are_equal.new.stages.now.facts) _ _ _ _ (c.form_at-f.ensures ∙ ap (λ forms. form_at forms c.args.first.0) c.forms.ensures) (c.form_at-g.ensures ∙ ap (λ forms. form_at forms c.args.second.0) c.forms-2.ensures)
    (MatchBool-at_true _ _ c.if-branch.true c.in_ok-are_equal.ensures.equal))
    c.in_ok-gathered.ensures

pub returns-in_ok-from_slice-clause-ending : goal.returns-in_ok-from_slice-clause-ending
returns-in_ok-from_slice-clause-ending c = λ task w.
    subst (λ (ns : List ℕ). AreApart task.inputs c.args.stages.now.now.path (tree task.nodes c.args.first.0) (tree task.nodes c.args.second.0) ns) (sym c.in_ok-from_slice.ensures.items)
    (different_end task c.args.stages.now c.args.first c.args.second w c.are_equal.new.stages.now.path c.kept.result.now c.are_equal.new.stages.inputs c.are_equal.ensures.inputs c.in_ok-are_equal.ensures.path c.kept.ensures
    (λ x m. apart_as x _ _ _ _ (c.form_at-f.ensures ∙ ap (λ forms. form_at forms c.args.first.0) c.forms.ensures) (c.form_at-g.ensures ∙ ap (λ forms. form_at forms c.args.second.0) c.forms-2.ensures)
    (MatchBool-at_false _ _ c.if-branch.false c.in_ok-are_equal.ensures.equal x m)))
