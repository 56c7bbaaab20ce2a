use Rattle.std.proofs.Common.{◌∙◌, ap, [], ◌∷◌, refl}
use Rattle.case_split.specs.Stages.{Stages}
use Rattle.case_split.proofs.Nesting.{grown_nested, grown_begun, none_more}
use Rattle.case_split.proofs.stages.Stages.settle.Goals as goal

pub invariant_of-self-2 : goal.invariant_of-self-2
invariant_of-self-2 c =
    grown_nested _ _ c.self.inside.bounds.assumptions _ [] c.self.inside.facts.items _ [] c.self.inside.forms.items c.push.new.self.items (c.args.form ∷ []) c.self.inside.later.items refl (none_more _) (none_more _) c.in_ok-push.ensures.items c.self.invariant

pub returns-clause-later : goal.returns-clause-later
returns-clause-later c =
    grown_begun _ c.self.inside.bounds.inputs c.self.inside.bounds.assumptions _ [] c.self.inside.facts.items _ [] c.self.inside.forms.items c.push.new.self.items (c.args.form ∷ []) c.self.inside.later.items refl (none_more _) (none_more _) c.in_ok-push.ensures.items c.self.invariant
    ∙ ap (λ (s : Stages). s.later) c.self.view_is
