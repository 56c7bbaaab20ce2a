use Rattle.std.proofs.Common.{◌∙◌, ap, []}
use Rattle.case_split.specs.Stages.{Stages}
use Rattle.case_split.proofs.Nesting.{grown_nested, grown_begun, none_more}
use Rattle.case_split.proofs.stages.Stages.begin.Goals as goal

pub invariant_of-self-in_err-push-2 : goal.invariant_of-self-in_err-push-2
invariant_of-self-in_err-push-2 c =
    grown_nested _ _ c.self.inside.bounds.assumptions c.add.new.bounds.assumptions _ c.self.inside.facts.items c.push-2.new.self.items [] c.self.inside.forms.items _ [] c.self.inside.later.items c.in_ok-add.ensures.inputs c.in_ok-add.ensures.assumptions (c.in_err-push-2.ensures.items ∙ none_more _) (none_more _) c.self.invariant

pub invariant_of-self-in_err-push-3 : goal.invariant_of-self-in_err-push-3
invariant_of-self-in_err-push-3 c =
    grown_nested _ _ c.self.inside.bounds.assumptions c.add.new.bounds.assumptions _ c.self.inside.facts.items c.push-2.new.self.items _ c.self.inside.forms.items c.push-3.new.self.items [] c.self.inside.later.items c.in_ok-add.ensures.inputs c.in_ok-add.ensures.assumptions c.in_ok-push-2.ensures.items (c.in_err-push-3.ensures.items ∙ none_more _) c.self.invariant

pub invariant_of-self-2 : goal.invariant_of-self-2
invariant_of-self-2 c =
    grown_nested _ _ c.self.inside.bounds.assumptions c.add.new.bounds.assumptions _ c.self.inside.facts.items c.push-2.new.self.items _ c.self.inside.forms.items c.push-3.new.self.items _ c.self.inside.later.items c.in_ok-add.ensures.inputs c.in_ok-add.ensures.assumptions c.in_ok-push-2.ensures.items c.in_ok-push-3.ensures.items c.self.invariant

pub returns-clause-later : goal.returns-clause-later
returns-clause-later c =
    grown_begun _ _ c.self.inside.bounds.assumptions c.add.new.bounds.assumptions _ c.self.inside.facts.items c.push-2.new.self.items _ c.self.inside.forms.items c.push-3.new.self.items _ c.self.inside.later.items c.in_ok-add.ensures.inputs c.in_ok-add.ensures.assumptions c.in_ok-push-2.ensures.items c.in_ok-push-3.ensures.items c.self.invariant
    ∙ ap (λ (s : Stages). s.later) c.self.view_is
