use Rattle.std.proofs.Common.{◌∙◌, ap, sym, subst, [], ◌∷◌, arith, List, length, length-append, ℕ, ◌≤◌}
use Rattle.std.specs.List.{AllByRecursion}
use Rattle.diff_bounds.specs.Pressing.{IsNear}
use Rattle.case_split.specs.Decided.{IsPossible}
use Rattle.case_split.specs.Stages.{Stages, Stage}
use Rattle.case_split.specs.Nested.{begun}
use Rattle.case_split.proofs.Nesting.{cut_nested, cut_begun, popped_near}
use Rattle.case_split.proofs.stages.Stages.back.Goals as goal

pub invariant_of-self : goal.invariant_of-self
invariant_of-self c =
    cut_nested c.self.inside.bounds.inputs c.self.inside.bounds.assumptions c.self.inside.facts.items c.self.inside.forms.items c.self.inside.later.items c.pop.new.self.items c.in-Some.later c.in-Some.ensures.items c.self.invariant
    c.cut.new.bounds.inputs c.cut.new.bounds.assumptions c.truncate.new.self.items c.truncate-in-Some.new.self.items c.cut.ensures.inputs c.cut.ensures.assumptions c.truncate.ensures.items c.truncate-in-Some.ensures.items

pub begin-requires-clause-near : goal.begin-requires-clause-near
begin-requires-clause-near c =
    subst (λ (n : ℕ). IsNear n c.in-Some.later.side) (sym c.cut.ensures.inputs)
    (popped_near c.self.inside.bounds.inputs c.self.inside.bounds.assumptions c.self.inside.facts.items c.self.inside.forms.items c.self.inside.later.items c.pop.new.self.items c.in-Some.later c.in-Some.ensures.items c.self.invariant)

pub begin-requires-clause-room : goal.begin-requires-clause-room
begin-requires-clause-room c =
    let next = sym (ap (λ (s : Stages). s.later) c.self.view_is)
    ∙ cut_begun c.self.inside.bounds.inputs c.self.inside.bounds.assumptions c.self.inside.facts.items c.self.inside.forms.items c.self.inside.later.items c.pop.new.self.items c.in-Some.later c.in-Some.ensures.items c.self.invariant
    c.cut.new.bounds.assumptions c.truncate.new.self.items c.truncate-in-Some.new.self.items c.cut.ensures.assumptions c.truncate.ensures.items c.truncate-in-Some.ensures.items in
    let room = subst (λ (later : List Stage). AllByRecursion (λ s. length s.path ≤ 65536) later) next c.requires.room in
    let long = length-append c.cut.new.bounds.assumptions (c.in-Some.later.side ∷ []) in
    omega (arith, room.0, long)

pub begin-requires-clause-possible : goal.begin-requires-clause-possible
begin-requires-clause-possible c =
    let next = sym (ap (λ (s : Stages). s.later) c.self.view_is)
    ∙ cut_begun c.self.inside.bounds.inputs c.self.inside.bounds.assumptions c.self.inside.facts.items c.self.inside.forms.items c.self.inside.later.items c.pop.new.self.items c.in-Some.later c.in-Some.ensures.items c.self.invariant
    c.cut.new.bounds.assumptions c.truncate.new.self.items c.truncate-in-Some.new.self.items c.cut.ensures.assumptions c.truncate.ensures.items c.truncate-in-Some.ensures.items in
    (subst (λ (later : List Stage). AllByRecursion (λ s. IsPossible s.path) later) next c.requires.possible).0

pub returns-in_ok-begin-in-Some-clause-next : goal.returns-in_ok-begin-in-Some-clause-next
returns-in_ok-begin-in-Some-clause-next c =
    let next = sym (ap (λ (s : Stages). s.later) c.self.view_is)
    ∙ cut_begun c.self.inside.bounds.inputs c.self.inside.bounds.assumptions c.self.inside.facts.items c.self.inside.forms.items c.self.inside.later.items c.pop.new.self.items c.in-Some.later c.in-Some.ensures.items c.self.invariant
    c.cut.new.bounds.assumptions c.truncate.new.self.items c.truncate-in-Some.new.self.items c.cut.ensures.assumptions c.truncate.ensures.items c.truncate-in-Some.ensures.items in
    next ∙ (ap (λ (s : Stage). s ∷ begun c.cut.new.bounds.assumptions c.truncate.new.self.items c.truncate-in-Some.new.self.items c.pop.new.self.items) (sym c.in_ok-begin-in-Some.ensures.now)
    ∙ ap (λ (later : List Stage). c.begin.new.self.now ∷ later) (sym c.in_ok-begin-in-Some.ensures.later))
