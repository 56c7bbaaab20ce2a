use Rattle.std.proofs.Common.{◌≡◌, ap, subst, sym, [], ◌∷◌, ◌++◌, arith, List, length, refl}
use Rattle.std.specs.Prelude.{OnOk, pos, neg_ℤ, ◌-ℤ◌}
use Rattle.std.proofs.lemmas.Int.{ints}
use Rattle.diff_bounds.specs.Pressing.{IsNear}
use Rattle.refutation.specs.declared.assumption.Assumption.{Assumption}
use Rattle.case_split.specs.Decided.{IsPossible}
use Rattle.case_split.specs.Stages.{Stages, Stage, assumed}
use Rattle.case_split.specs.Steps.{width, yes_assumption}
use Rattle.case_split.proofs.Nesting.{split_nested, split_later, yes_near}
use Rattle.case_split.proofs.stages.Stages.split.Goals as goal

pub invariant_of-self-2 : goal.invariant_of-self-2
invariant_of-self-2 c =
    let long = ap (λ (p : List Assumption). length p) c.assumptions-depth.ensures in
    let pushed = rw c.no_side.ensures at c.in_ok-push.ensures.items in
    split_nested c.self.inside.bounds.inputs c.self.inside.bounds.assumptions c.self.inside.facts.items c.self.inside.forms.items c.self.inside.later.items c.push.new.self.items c.args.self.now _ _ _ _ _ _ (neg_ℤ (width c.args.choice.comparison) -ℤ pos 1) _
    c.self.invariant c.self.view_is pushed (omega (arith, long)) (omega arith) (omega arith) refl c.requires.to c.requires.from (omega (arith, ints)) (omega (arith, ints))

pub begin-requires-clause-near : goal.begin-requires-clause-near
begin-requires-clause-near c =
    subst (λ (a : Assumption). IsNear c.self.inside.bounds.inputs a) (sym c.yes_side.ensures)
    (subst (λ (s : Stages). IsNear s.inputs (yes_assumption c.args.choice.comparison)) (sym c.self.view_is)
    (yes_near c.args.self.now.inputs c.args.choice.comparison c.requires.from c.requires.to c.requires.from_cycles c.requires.to_cycles))

pub begin-requires-clause-possible : goal.begin-requires-clause-possible
begin-requires-clause-possible c =
    subst (λ (a : Assumption). IsPossible (c.self.inside.bounds.assumptions ++ a ∷ [])) (sym c.yes_side.ensures)
    (subst (λ (s : Stages). IsPossible (s.now.path ++ yes_assumption c.args.choice.comparison ∷ [])) (sym c.self.view_is) c.requires.possible)

pub returns-clause-later : goal.returns-clause-later
returns-clause-later c =
    let long = ap (λ (p : List Assumption). length p) c.assumptions-depth.ensures in
    let pushed = rw c.no_side.ensures at c.in_ok-push.ensures.items in
    subst (λ (s : List Stage). OnOk c.begin.result (c.begin.new.self.later ≡ s))
    (split_later c.self.inside.bounds.inputs c.self.inside.bounds.assumptions c.self.inside.facts.items c.self.inside.forms.items c.self.inside.later.items c.push.new.self.items c.args.self.now _ _ _ _ _ _ _ _
    c.self.invariant c.self.view_is pushed (omega (arith, long)) (omega arith) (omega arith) refl) c.begin.ensures.later

pub returns-clause-now : goal.returns-clause-now
returns-clause-now c =
    subst (λ (s : Stages). OnOk c.begin.result (c.begin.new.self.now ≡ assumed s.now (yes_assumption c.args.choice.comparison) c.args.choice.yes)) c.self.view_is
    (subst (λ (a : Assumption). OnOk c.begin.result (c.begin.new.self.now ≡ assumed (record { path = c.self.inside.bounds.assumptions; facts = c.self.inside.facts.items; forms = c.self.inside.forms.items }) a c.args.choice.yes))
    c.yes_side.ensures c.begin.ensures.now)
